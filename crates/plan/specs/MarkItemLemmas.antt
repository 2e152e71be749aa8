-- Marks keep the law of a kind: no mark counts more than 1, and 0 and 1 each have a mark. Assumes nothing.
use Rattle.std.specs.Prelude.{◌≡◌, ℕ, zero, suc, ◌≤◌, refl}
use Rattle.std.proofs.Common.{arith}
use Rattle.plan.specs.Items.{mark_score}
use Rattle.plan.specs.declared.items.Mark.{Mark}
use Rattle.plan.specs.declared.items.Mark.TheVariants.{Conforming, Nonconforming}

pub bounded : (x : Mark) → mark_score x ≤ 1
bounded Conforming = omega arith
bounded Nonconforming = omega arith

pub onto : (n : ℕ) → n ≤ 1 → ∥ ((x : Mark) × (mark_score x ≡ n)) ∥₁
onto zero h = ∣ (Conforming, refl) ∣₁
onto (suc zero) h = ∣ (Nonconforming, refl) ∣₁
onto (suc (suc n)) h = absurd (omega arith)
