-- Kinds of item. Assumes nothing.
use Rattle.std.specs.Prelude.{◌≡◌, ℕ, ◌≤◌}
use Rattle.plan.specs.Limits.{max_count}
use Rattle.plan.specs.declared.items.Mark.{Mark}
use Rattle.plan.specs.declared.items.Mark.TheVariants.{Conforming, Nonconforming}

-- A kind of item: a greatest count, at most 15, that no item passes; and each count up to it has an item that gives it.
pub record Kind {X : Type 0} (greatest : ℕ) (score : X → ℕ) : Type 0 where
  pub small : greatest ≤ max_count
  pub bounded : (x : X) → score x ≤ greatest
  pub onto : (n : ℕ) → n ≤ greatest → ∥ ((x : X) × (score x ≡ n)) ∥₁

abbrev pub mark_score : Mark → ℕ
mark_score Conforming = 0
mark_score Nonconforming = 1
