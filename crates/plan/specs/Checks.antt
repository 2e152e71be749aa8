-- The checks of plan numbers: the first number outside its limits is named by its position. Assumes nothing.
use Rattle.std.specs.Prelude.{◌≡◌, ℕ, ◌+◌, Bool, cond, ◌&&◌, List, [], ◌∷◌, Some, None, Ok, Err, Option, Result, nat_le}
use Rattle.plan.specs.Limits.{max_size, max_acceptance, max_intercept, max_slope}
use Rattle.plan.specs.declared.numbers.NumberFault.{NumberFault}
use Rattle.plan.specs.declared.numbers.NumberFault.TheVariants.{OutsideLimits}
use Rattle.plan.specs.declared.numbers.LineNumbers.{LineNumbers}
use Rattle.plan.specs.declared.numbers.SingleNumbers.{SingleNumbers}
use Rattle.plan.specs.declared.numbers.CutNumbers.{CutNumbers}

-- A number that was sent, and whether it lies within its limits.
abbrev pub within : ℕ → ℕ → ℕ → Bool
within low high n = nat_le low n && nat_le n high

-- The position, counted on from i, of the first number that failed its test.
abbrev pub first_outside : ℕ → List Bool → Option ℕ
first_outside i [] = None
first_outside i (ok ∷ oks) = cond ok (first_outside (i + 1) oks) (Some i)

-- A checked record holds just the numbers that were sent; a refusal names the first one outside its limits.
abbrev pub Checked : {R : Type 0} → Option ℕ → (R → Type 0) → Result R NumberFault → Type 0
Checked outside Holds (Ok r) = (outside ≡ None) × Holds r
Checked outside Holds (Err e) = (i : ℕ) × (outside ≡ Some i) × (e ≡ OutsideLimits i)

abbrev pub line_outside : ℕ → ℕ → ℕ → ℕ → ℕ → Option ℕ
line_outside ha hr g n a =
    first_outside 1 (within 1 max_intercept ha ∷ within 1 max_intercept hr ∷ within 1 max_slope g ∷ within 1 max_size n ∷ within 0 max_acceptance a ∷ [])

-- single plans and cuts carry a size and a number
abbrev pub size_outside : ℕ → ℕ → Option ℕ
size_outside n a = first_outside 1 (within 1 max_size n ∷ within 0 max_acceptance a ∷ [])

pub record LineHolds (ha hr g n a : ℕ) (r : LineNumbers) : Type 0 where
  pub accept_intercept : r.accept_intercept ≡ ha
  pub reject_intercept : r.reject_intercept ≡ hr
  pub slope : r.slope ≡ g
  pub cut_size : r.cut_size ≡ n
  pub cut_number : r.cut_number ≡ a

pub record SingleHolds (n a : ℕ) (r : SingleNumbers) : Type 0 where
  pub last_size : r.last_size ≡ n
  pub number : r.number ≡ a

pub record CutHolds (c a : ℕ) (r : CutNumbers) : Type 0 where
  pub size : r.size ≡ c
  pub number : r.number ≡ a
