-- What each make of plan means, by its numbers. Assumes nothing.
use Rattle.std.specs.Prelude.{ℕ, ◌+◌, ◌*◌, ◌/◌, ◌%◌, min, cond, ℤ, pos, negsuc, ◌-ℤ◌, nat_lt}
use Rattle.std.specs.Int.{int_min, int_max, int_div_euclid}
use Rattle.plan.specs.Boundaries.{Boundary, acceptance, rejection}
use Rattle.plan.specs.Limits.{million}

-- At a closing size the pair is a, a + 1: no count stays live.
abbrev pub closing : ℕ → ℤ × ℤ
closing a = (pos a, pos (a + 1))

-- Millionths rounded down (also below zero) and rounded up to whole numbers. A whole value stays.
abbrev pub rounded_down : ℤ → ℤ
rounded_down x = int_div_euclid x (pos million)

abbrev pub rounded_up : ℕ → ℕ
rounded_up x = x / million + min 1 (x % million)

-- A line: below the cut size the acceptance number is g·n − h_A rounded down, -1 where that is negative, and at most
-- the cut number; the rejection number is g·n + h_R rounded up, and at most the cut number plus one.
abbrev pub line_acceptance : ℕ → ℕ → ℕ → ℕ → ℤ
line_acceptance ha g a n = int_min (int_max (rounded_down (pos (g * n) -ℤ pos ha)) (negsuc 0)) (pos a)

abbrev pub line_rejection : ℕ → ℕ → ℕ → ℕ → ℤ
line_rejection hr g a n = pos (min (rounded_up (g * n + hr)) (a + 1))

abbrev pub line_meaning : ℕ → ℕ → ℕ → ℕ → ℕ → Boundary
line_meaning ha hr g last a = record {
  last = last;
  pairs = λ n. cond (nat_lt n last) (line_acceptance ha g a n, line_rejection hr g a n) (closing a);
}

-- A single plan rules at its last size; before it, it can only reject.
abbrev pub single_meaning : ℕ → ℕ → Boundary
single_meaning last a = record { last = last; pairs = λ n. cond (nat_lt n last) (negsuc 0, pos (a + 1)) (closing a) }

-- A cut at size c with number a, over any boundary.
abbrev pub cut_meaning : ℕ → ℕ → Boundary → Boundary
cut_meaning c a b = record {
  last = min c b.last;
  pairs = λ n. cond (nat_lt n c) (int_min (acceptance b n) (pos a), int_min (rejection b n) (pos (a + 1))) (closing a);
}
