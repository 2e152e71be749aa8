use Rattle.std.proofs.Common.{◌≡◌, map, length, take}
use Rattle.stand.specs.Bays.{Small}
use Rattle.stand.specs.Histories.{Lived, call_of, steps}
use Rattle.stand.proofs.histories.run.Given as goal

abbrev pub invariant-loop-step : goal.invariant-loop-step
invariant-loop-step g l = record {
  plan : l.stand.plan ≡ l.initial.stand.plan;
  all_bays : length l.stand.bays ≡ 32;
  calls : map call_of l.history ≡ map call_of l.initial.history;
  replied : length (steps (take l.step-index l.history)) ≡ l.step-index;
  small : Small l.stand.bays;
  lived : Lived g.K.Item.GREATEST (g.P.Plan.meaning l.stand.plan) (steps (take l.step-index l.history)) l.stand.bays;
}
