-- The refusals of numbers: cause, layer and place. Assumes nothing.
use Rattle.std.specs.Prelude.{ℕ}
use Rattle.plan.specs.declared.numbers.NumberFault.{NumberFault}
use Rattle.plan.specs.declared.numbers.NumberFault.TheVariants.{OutsideLimits, CountTooLarge}
use Rattle.plan.specs.declared.refusals.Layer.{Layer}
use Rattle.plan.specs.declared.refusals.Layer.TheVariants.{Number}
use Rattle.plan.specs.declared.refusals.Refusal.{Refusal}

abbrev pub refuse : ℕ → Layer → ℕ → Refusal
refuse cause layer place = record { cause = cause; layer = layer; place = place }

abbrev pub refused_number : NumberFault → Refusal
refused_number (OutsideLimits i) = refuse 2 Number i
refused_number CountTooLarge = refuse 3 Number 1
