use Rattle.std.proofs.Common.{◌+◌, ◌*◌, ◌<◌, ◌≤◌, length, ap, arith, rules}
use Rattle.std.proofs.lemmas.List.{length-map}
use Rattle.sheet.specs.Sheets.{lines, points_in, row_in}
use Rattle.sheet.proofs.Steps.{first_small, sheet_few}
use Rattle.sheet.proofs.extents.extent_of.Given as given
use Rattle.sheet.proofs.extents.extent_of.Goals as goal
use Rattle.sheet.proofs.extents.extent_of.Goals.{In-Some}

-- the counts of a line are small, and so are the numbers of lines and points so far
small : (g : given.Over) (c : In-Some g) → (c.in-Some.reached.low < c.in-Some.reached.end) × (c.in-Some.reached.end ≤ 269) × (c.loop-reached.extent.rows + 1 ≤ 4096)
small g c =
    let walk = c.loop-reached.reached-iterator in
    let line = first_small (g.P.Plan.meaning walk.plan.now) g.K.Item.GREATEST walk.size walk.reached _ _ walk.small c.in-Some.ensures.steps in
    let most = sheet_few g.K.Item.GREATEST _ (g.met.P.Plan.lawful c.args.plan.now) in
    let is = ap length c.in-Some.ensures.steps in
    (line.0, line.1, omega (arith, c.loop-reached.invariant.rows))

pub overflow_add-extent : goal.overflow_add-extent
overflow_add-extent g c = let h = small g (goal.at.overflow_add-extent g c).In-Some in search rules

pub overflow_sub-extent : goal.overflow_sub-extent
overflow_sub-extent g c = let h = small g (goal.at.overflow_sub-extent g c).In-Some in omega arith

pub overflow_add-extent-in-loop-reached : goal.overflow_add-extent-in-loop-reached
overflow_add-extent-in-loop-reached g c =
    let h = small g (goal.at.overflow_add-extent-in-loop-reached g c).In-Some in
    let fits : c.loop-reached.extent.points + c.in-Some.reached.end ≤ 269 * 4096 = omega (arith, c.loop-reached.invariant.few) in
    search rules

pub loop-reached-preserved : goal.loop-reached-preserved
loop-reached-preserved g c =
    let h = small g (goal.at.loop-reached-preserved g c).In-Some in
    let step = c.in-Some.ensures.steps in
    let inv = c.loop-reached.invariant in
    record { rows = omega (arith, inv.rows, ap length step); points = omega (arith, inv.points, ap points_in step); few = omega (arith, inv.few) }

pub returns-clause-rows : goal.returns-clause-rows
returns-clause-rows g c = omega (arith, c.loop-reached.invariant.rows, ap length c.in-None.ensures.steps.0, length-map (lines g.K.Item.GREATEST (g.P.Plan.meaning c.args.plan.now)) row_in)
