-- What a sheet says of series of items, and plans that end every series alike. Assumes nothing.
use Rattle.std.specs.Prelude.{◌≡◌, ℕ, ◌+◌, ◌<◌, ◌≤◌, List, map, length, take, Some, None, Option, slice_index_or}
use Rattle.std.specs.List.{AllByRecursion}
use Rattle.plan.specs.Boundaries.{Boundary}
use Rattle.plan.specs.Limits.{max_size}
use Rattle.plan.specs.Rulings.{Rules, Ends, total}
use Rattle.plan.specs.declared.verdicts.Verdict.{Verdict}
use Rattle.plan.specs.declared.verdicts.Verdict.TheVariants.{Accept, Reject}
use Rattle.sheet.specs.declared.rows.Row.{Row}

-- The greatest count with a property, and the smallest, or that there is none.
abbrev pub Greatest : (ℕ → Type 0) → Option ℕ → Type 0
Greatest P None = (d : ℕ) → P d → ⊥
Greatest P (Some a) = P a × ((d : ℕ) → P d → d ≤ a)

abbrev pub Smallest : (ℕ → Type 0) → Option ℕ → Type 0
Smallest P None = (d : ℕ) → P d → ⊥
Smallest P (Some r) = P r × ((d : ℕ) → P d → r ≤ d)

-- a row in which nothing is accepted or rejected
abbrev pub blank : Row
blank = record { acceptance = None; rejection = None }

-- Items of one kind, by the count that each gives.
module _ {X : Type 0} (score : X → ℕ) where
  -- Some series of n items comes to count d, and the plan does not end it before.
  abbrev pub Reaches : Boundary → ℕ → ℕ → Type 0
  Reaches b n d = ∥ ((xs : List X) × (length xs ≡ n) × (total (map score xs) ≡ d) × ((k : ℕ) → 1 ≤ k → k < n → Rules (b.pairs k) (total (take k (map score xs))) None)) ∥₁

  -- A row shows, of the counts that series reach at a size, the greatest accepted and the smallest rejected.
  pub record Shows (b : Boundary) (n : ℕ) (r : Row) : Type 0 where
    pub accepts : Greatest (λ d. Reaches b n d × Rules (b.pairs n) d (Some Accept)) r.acceptance
    pub rejects : Smallest (λ d. Reaches b n d × Rules (b.pairs n) d (Some Reject)) r.rejection

  -- Rows are the sheet of a plan: each shows what series reach at its size, some series goes on from each row but the
  -- last, and none goes on from that.
  pub record SheetOf (b : Boundary) (rows : List Row) : Type 0 where
    pub some : 1 ≤ length rows
    pub within : length rows ≤ b.last
    pub each : (n : ℕ) → n < length rows → Shows b (n + 1) (slice_index_or rows n blank)
    pub goes_on : (n : ℕ) → 1 ≤ n → n < length rows → ∥ ((d : ℕ) × Reaches b n d × Rules (b.pairs n) d None) ∥₁
    pub ends : (d : ℕ) → Reaches b (length rows) d → Rules (b.pairs (length rows)) d None → ⊥

  -- Two plans end every series of 4,096 items at the same item with the same verdict.
  abbrev pub SameEnds : Boundary → Boundary → Type 0
  SameEnds p q =
      (xs : List X) → length xs ≡ max_size → (n : ℕ) (v : Verdict)
      → (Ends p (map score xs) n v → Ends q (map score xs) n v) × (Ends q (map score xs) n v → Ends p (map score xs) n v)

-- Two plans end every series of counts up to m alike, however long it is.
abbrev pub EndAlike : ℕ → Boundary → Boundary → Type 0
EndAlike m p q = (xs : List ℕ) → AllByRecursion (λ x. x ≤ m) xs → (n : ℕ) (v : Verdict) → (Ends p xs n v → Ends q xs n v) × (Ends q xs n v → Ends p xs n v)
