-- Adding to a text, and the digits of a number. Assumes nothing.
use Rattle.std.proofs.Common.{◌≡◌, ℕ, ◌+◌, ◌^◌, ◌<◌, ◌≤◌, suc, List, [], ◌∷◌, ◌++◌, length, take, drop, set, min, replicate, ◌-◌, decimal, sym, ap, ◌∙◌, append_assoc, arith}
use Rattle.std.proofs.lemmas.Fmt.{length-decimal-le}
use Rattle.std.proofs.lemmas.List.{append-nil, drop-replicate, length-append, length-take, length-take-le, set_split, take-append-le, take_all, take_min, take_more_set}
use Rattle.std.proofs.Math.Seq.{drop-append-add, take-append-add}
use Rattle.std.proofs.lemmas.Grind.{common_steps}
use Rattle.text.specs.Texts.{added, filled}
use Rattle.text.specs.TextLemmas.{filled_long}

take_twice : (n : ℕ) (xs ys : List ℕ) → take n (take n xs ++ ys) ≡ take n (xs ++ ys)
take_twice n xs ys = grind (arith, common_steps)

-- two additions are one
pub added_added : (text a b : List ℕ) → added (added text a) b ≡ added text (a ++ b)
added_added text a b = take_twice 96 (text ++ a) b ∙ ap (take 96) (append_assoc text a b)

-- where it all fits nothing is left out
pub added_all : (text more : List ℕ) → length text + length more ≤ 96 → added text more ≡ text ++ more
added_all text more fits = let long = length-append text more in take_all 96 (text ++ more) (omega arith)

-- a full text stays
pub added_full : (text more : List ℕ) → length text ≡ 96 → added text more ≡ text
added_full text more full = take-append-le 96 text more (omega arith) ∙ take_all 96 text (omega arith)

pub added_none : (text : List ℕ) → length text ≤ 96 → added text [] ≡ text
added_none text short = added_all text [] (omega arith) ∙ append-nil text

-- the first n bytes of a text's room are written, and the others are noughts
module _ (bs : List ℕ) (n : ℕ) (is : bs ≡ filled (take n bs)) where
  -- one more byte is written behind them
  pub push_fits : (b : ℕ) → n < 96 → take (n + 1) (set bs n b) ≡ added (take n bs) (b ∷ [])
  push_fits b room =
      let long = filled_long bs n (omega arith) is in
      let front = length-take-le n bs (omega arith) in
      take_more_set bs n b (omega arith) ∙ sym (added_all (take n bs) (b ∷ []) (omega arith))

  -- and the others stay noughts
  pub push_filled : (b : ℕ) → n < 96 → set bs n b ≡ filled (take (n + 1) (set bs n b))
  push_filled b room =
      let long = filled_long bs n (omega arith) is in
      let front = length-take-le n bs (omega arith) in
      let zero : ℕ = 0 in
      let inside : n < length bs = omega arith in
      let next : suc n ≡ length (take n bs) + 1 = omega (arith, front) in
      let rest = ap (drop (suc n)) is ∙ ap (λ m. drop m (filled (take n bs))) next ∙ drop-append-add (take n bs) _ 1 ∙ drop-replicate 1 (96 - length (take n bs)) zero in
      let count : 96 - length (take n bs) - 1 ≡ 96 - length (take n bs ++ (b ∷ [])) = omega (arith, length-append (take n bs) (b ∷ [])) in
      set_split bs n b inside ∙ ap (λ r. take n bs ++ (b ∷ r)) rest ∙ sym (append_assoc (take n bs) (b ∷ []) _)
      ∙ ap (λ k. (take n bs ++ (b ∷ [])) ++ replicate k zero) count ∙ ap filled (sym (take_more_set bs n b inside))

-- as many of the bytes as fit
pub added_fits : (text more : List ℕ) → length text ≤ 96 → added text more ≡ text ++ take (min (96 - length text) (length more)) more
added_fits text more short =
    let whole : 96 ≡ length text + (96 - length text) = omega arith in
    ap (λ n. take n (text ++ more)) whole ∙ take-append-add text more (96 - length text) ∙ ap (λ l. text ++ l) (sym (take_min (96 - length text) more))

-- what is left out of what is added changes nothing
pub added_front : (text more : List ℕ) → length text ≤ 96 → added text (take (min (96 - length text) (length more)) more) ≡ added text more
added_front text more short =
    let few = length-take (min (96 - length text) (length more)) more in
    added_all text _ (omega (arith, few)) ∙ sym (added_fits text more short)

-- a u32 has at most 10 digits
pub length_decimal_u32 : (n : ℕ) → n < 2 ^ 32 → length (decimal n) ≤ 10
length_decimal_u32 n small = length-decimal-le 10 n (omega arith) (omega arith) (omega arith)
