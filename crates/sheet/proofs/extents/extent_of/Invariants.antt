use Rattle.std.proofs.Common.{◌≡◌, ◌+◌, ◌*◌, ◌≤◌, length}
use Rattle.sheet.specs.Lefts.{left}
use Rattle.sheet.specs.Sheets.{lines, points_in}
use Rattle.sheet.proofs.extents.extent_of.Given as goal

abbrev pub invariant-loop-reached : goal.invariant-loop-reached
invariant-loop-reached g l =
    let m = g.K.Item.GREATEST in
    let all = lines m (g.P.Plan.meaning l.plan) in
    let rest = left g.P.Plan.meaning m l.reached-iterator in
    record {
      rows : l.extent.rows + length rest ≡ length all;
      points : l.extent.points + points_in rest ≡ points_in all;
      few : l.extent.points ≤ 269 * l.extent.rows;
    }
