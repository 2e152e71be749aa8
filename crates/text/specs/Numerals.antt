-- The numbers that a word can write. Assumes nothing.
use Rattle.std.specs.Prelude.{ℕ, ◌+◌, ◌-◌, ◌*◌, ◌^◌, Bool, if◌then◌else◌, ◌&&◌, List, [], ◌∷◌, length, Some, None, Option, nat_le, nat_lt}
use Rattle.std.specs.Str.{all_ascii_digits}
use Rattle.text.specs.Cuts.{before, after}

-- the value of digits, read after digits of the value n
abbrev pub value_after : ℕ → List ℕ → ℕ
value_after n [] = n
value_after n (c ∷ cs) = value_after (n * 10 + (c - 48)) cs

-- 1 to k digits, and nothing else
abbrev pub is_numeral : ℕ → List ℕ → Bool
is_numeral k bs = nat_lt 0 (length bs) && (nat_le (length bs) k && all_ascii_digits bs)

-- the value of 1 to k digits
abbrev pub numeral_of : ℕ → List ℕ → Option ℕ
numeral_of k bs = if is_numeral k bs then Some (value_after 0 bs) else None

-- a whole number: 1 to 7 digits
abbrev pub whole_of : List ℕ → Option ℕ
whole_of bs = numeral_of 7 bs

-- in millionths: a whole part n, and a fraction of m in its last place, of which there are k
abbrev pub millionths : ℕ → ℕ → ℕ → ℕ
millionths n m k = n * 1000000 + m * 10 ^ (6 - k)

-- from the whole part, and the fraction as a number where there is a point
abbrev pub with_fraction : ℕ → ℕ → Option ℕ → Option ℕ
with_fraction n k None = None
with_fraction n k (Some m) = Some (millionths n m k)

abbrev pub from_parts : Option ℕ → Option (List ℕ) → Option ℕ
from_parts None point = None
from_parts (Some n) None = Some (millionths n 0 0)
from_parts (Some n) (Some fraction) = with_fraction n (length fraction) (numeral_of 6 fraction)

-- a decimal, in millionths: 1 to 4 digits, then perhaps a point and 1 to 6 digits
abbrev pub decimal_of : List ℕ → Option ℕ
decimal_of bs = from_parts (numeral_of 4 (before 46 bs)) (after 46 bs)
