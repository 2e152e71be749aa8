-- The ruling on a count, and where a plan ends a series of counts. Assumes nothing.
use Rattle.std.specs.Prelude.{ℕ, ◌+◌, ◌<◌, ◌≤◌, cond, List, [], ◌∷◌, length, take, ℤ, pos, ◌≤ℤ◌, ◌<ℤ◌, Some, None, Option, int_le}
use Rattle.plan.specs.Boundaries.{Boundary, HasSize, asked}
use Rattle.plan.specs.declared.verdicts.Verdict.{Verdict}
use Rattle.plan.specs.declared.verdicts.Verdict.TheVariants.{Accept, Reject}

-- A count against a pair: accepted if it does not pass the first number, rejected if it reaches the second
-- (and is not accepted, which a lawful pair rules out), and live, with no verdict, if it lies between.
abbrev pub Rules : ℤ × ℤ → ℕ → Option Verdict → Type 0
Rules p d None = (p.0 <ℤ pos d) × (pos d <ℤ p.1)
Rules p d (Some Accept) = pos d ≤ℤ p.0
Rules p d (Some Reject) = (p.0 <ℤ pos d) × (p.1 ≤ℤ pos d)

-- The one verdict that `Rules` admits.
abbrev pub ruled : ℤ × ℤ → ℕ → Option Verdict
ruled p d = cond (int_le (pos d) p.0) (Some Accept) (cond (int_le p.1 (pos d)) (Some Reject) None)

-- The ruling by the pair of a size: none where there is no pair.
abbrev pub ruled_by : Option (ℤ × ℤ) → ℕ → Option Verdict
ruled_by None d = None
ruled_by (Some p) d = ruled p d

-- The ruling of a plan on a count at a size.
abbrev pub ruling_at : Boundary → ℕ → ℕ → Option Verdict
ruling_at b n d = ruled_by (asked b n) d

-- The count at a size is the sum of the counts so far.
abbrev pub total : List ℕ → ℕ
total [] = 0
total (x ∷ xs) = x + total xs

-- A plan ends a series of counts at the first size whose count is not live, with the verdict there.
pub record Ends (b : Boundary) (xs : List ℕ) (n : ℕ) (v : Verdict) : Type 0 where
  pub size : HasSize b n
  pub reached : n ≤ length xs
  pub before : (k : ℕ) → 1 ≤ k → k < n → Rules (b.pairs k) (total (take k xs)) None
  pub there : Rules (b.pairs n) (total (take n xs)) (Some v)

-- The plan's verdict on a series: the one that it ends with, or none yet.
abbrev pub Judges : Boundary → List ℕ → Option Verdict → Type 0
Judges b xs None = (n : ℕ) (v : Verdict) → Ends b xs n v → ⊥
Judges b xs (Some v) = (n : ℕ) × Ends b xs n v
