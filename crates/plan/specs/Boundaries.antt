-- What a plan means: its last size, and for each size from 1 to it a pair of numbers. Assumes nothing.
use Rattle.std.specs.Prelude.{◌≡◌, ℕ, ◌≤◌, cond, ◌&&◌, ℤ, pos, negsuc, ◌+ℤ◌, ◌≤ℤ◌, ◌<ℤ◌, Some, None, Option, nat_le}
use Rattle.plan.specs.Limits.{max_size, max_rejection}

-- A boundary: the last size, and at each size the acceptance number and the rejection number.
-- What `pairs` says of size 0, or of a size past the last, has no meaning.
pub record Boundary : Type 0 where
  pub last : ℕ
  pub pairs : ℕ → ℤ × ℤ

-- The acceptance number at a size (-1 where no count can be accepted), and the rejection number.
abbrev pub acceptance : Boundary → ℕ → ℤ
acceptance b n = (b.pairs n).0

abbrev pub rejection : Boundary → ℕ → ℤ
rejection b n = (b.pairs n).1

-- A size that the boundary has.
abbrev pub HasSize : Boundary → ℕ → Type 0
HasSize b n = (1 ≤ n) × (n ≤ b.last)

-- The rules that every plan keeps. At the last size no number lies between the two.
pub record Lawful (b : Boundary) : Type 0 where
  pub some : 1 ≤ b.last
  pub few : b.last ≤ max_size
  pub floor : (n : ℕ) → HasSize b n → negsuc 0 ≤ℤ acceptance b n
  pub apart : (n : ℕ) → HasSize b n → acceptance b n <ℤ rejection b n
  pub roof : (n : ℕ) → HasSize b n → rejection b n ≤ℤ pos max_rejection
  pub closed : rejection b b.last ≡ acceptance b b.last +ℤ pos 1

-- What a plan answers for a size: its pair, or that no pair is there.
abbrev pub asked : Boundary → ℕ → Option (ℤ × ℤ)
asked b n = cond (nat_le 1 n && nat_le n b.last) (Some (b.pairs n)) None
