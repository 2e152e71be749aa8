-- Reading the digits of a numeral from the left. Assumes nothing.
use Rattle.std.proofs.Common.{◌≡◌, ℕ, ◌^◌, ◌<◌, ◌≤◌, List, drop, arith, lit<}
use native.Mathlib.Nat.{pow-le-pow_right}
use Rattle.std.specs.Str.{all_ascii_digits}
use Rattle.text.specs.Numerals.{value_after}

-- i bytes of a word are read as n: what is left decides, and gives the value after n
pub record ReadsAs (word : List ℕ) (i n : ℕ) : Type 0 where
  pub decided : all_ascii_digits word ≡ all_ascii_digits (drop i word)
  pub value : value_after 0 word ≡ value_after n (drop i word)
  pub below : n < 10 ^ i

-- six digits leave room for one more
pub room : {n i : ℕ} → n < 10 ^ i → i < 7 → n < 1000000
room {n} {i} below few =
    let most : 10 ^ i ≤ 10 ^ 6 = pow-le-pow_right (lit< tt) {i = i} {j = 6} (omega arith) in
    omega arith
