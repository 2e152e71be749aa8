use Rattle.std.proofs.Common.{◌+◌, ◌<◌, length, take, sym, refl, ap, ◌∙◌, arith}
use Rattle.std.proofs.lemmas.List.{length_push, length-set}
use Rattle.stand.specs.Bays.{held}
use Rattle.stand.specs.Histories.{steps}
use Rattle.stand.proofs.Emptiness.{held_none}
use Rattle.stand.proofs.Living.{served_lived, wrote, born, lived_at}
use Rattle.stand.proofs.histories.run.Goals as goal

pub loop-step-init : goal.loop-step-init
loop-step-init g c =
    let empty = ap (λ s. s.bays) c.new-stand.ensures.empty in
    record {
      plan = refl;
      all_bays = ap length empty;
      calls = refl;
      replied = refl;
      small = c.new-stand.ensures.small;
      lived = born _ _ _ (λ b. ap (λ l. held l b) empty ∙ held_none 32 b);
    }

pub loop-step-preserved : goal.loop-step-preserved
loop-step-preserved g c =
    let i = c.loop-step.step-index in
    let inv = c.loop-step.invariant in
    let serves = c.call.ensures.serves in
    let inside : i < length c.loop-step.history = omega (arith, c.loop-step-test.true, c.loop-step.auto.history) in
    let new = wrote c.loop-step.history i _ c.call.result inside in
    let lived = served_lived g.K.Item.GREATEST _ (g.met.P.Plan.lawful _) _ _ _ _ _ inv.all_bays inv.lived serves.served in
    record {
      plan = serves.plan ∙ inv.plan;
      all_bays = ap length serves.served.bays ∙ length-set _ _ _ ∙ inv.all_bays;
      calls = new.0 ∙ inv.calls;
      replied = ap length new.1 ∙ length_push (steps (take i c.loop-step.history)) _ ∙ ap (λ k. k + 1) inv.replied;
      small = c.call.ensures.small;
      lived = lived_at (ap g.P.Plan.meaning (sym serves.plan)) (sym new.1) lived;
    }
