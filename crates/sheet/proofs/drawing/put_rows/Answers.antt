use Rattle.std.proofs.Common.{◌+◌, sym, ap, ◌∙◌, length}
use Rattle.text.specs.Writes.{put_at}
use Rattle.sheet.proofs.Drawings.{begun, renamed, row_drawn}
use Rattle.sheet.specs.Lefts.{left}
use Rattle.sheet.proofs.drawing.put_rows.Goals as goal

pub loop-row-init : goal.loop-row-init
loop-row-init g c = renamed (sym (ap (left g.P.Plan.meaning g.K.Item.GREATEST) c.into_iter-row-iterator.ensures.into_iter_gives ∙ c.new-row-items.ensures)) (begun _ _ _ _ c.requires)

pub loop-row-preserved : goal.loop-row-preserved
loop-row-preserved g c =
    let row = c.from.ensures in
    row_drawn _ _ _ _ _ _ _ _ (renamed c.in-Some.ensures.steps c.loop-row.invariant) _ _ (c.put-at.ensures.place ∙ ap (λ b. c.loop-row.at + length b) row) (c.put-at.ensures.bytes ∙ ap (put_at c.loop-row.out c.loop-row.at) row)
