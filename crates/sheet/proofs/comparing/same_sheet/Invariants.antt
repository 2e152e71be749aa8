use Rattle.std.proofs.Common.{map, length}
use Rattle.sheet.specs.Lefts.{left}
use Rattle.sheet.specs.Sheets.{row_in, sheet}
use Rattle.sheet.proofs.Compared.{Follows}
use Rattle.sheet.proofs.comparing.same_sheet.Given as goal

abbrev pub invariant-loop-row : goal.invariant-loop-row
invariant-loop-row g l =
    let m = g.K.Item.GREATEST in
    Follows (sheet m (g.P.Plan.meaning l.one)) (sheet m (g.Q.Plan.meaning l.other))
    (map row_in (left g.P.Plan.meaning m l.walk)) (map row_in (left g.Q.Plan.meaning m l.beside))

abbrev pub decreases-loop-row : goal.decreases-loop-row
decreases-loop-row g l = length (left g.P.Plan.meaning g.K.Item.GREATEST l.walk)
