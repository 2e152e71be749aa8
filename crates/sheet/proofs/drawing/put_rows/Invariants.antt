use Rattle.sheet.specs.Lefts.{left}
use Rattle.sheet.proofs.Drawings.{Drawing}
use Rattle.sheet.proofs.drawing.put_rows.Given as goal

abbrev pub invariant-loop-row : goal.invariant-loop-row
invariant-loop-row g l = Drawing g.K.Item.GREATEST (g.P.Plan.meaning l.plan) l.start (left g.P.Plan.meaning g.K.Item.GREATEST l.row-iterator) l.initial.out l.out l.at
