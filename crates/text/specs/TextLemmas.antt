-- A text gives its bytes and its length back. Assumes nothing.
use Rattle.std.proofs.Common.{◌≡◌, ℕ, ◌≤◌, ◌+◌, ◌-◌, List, take, length, replicate, sym, ap, ◌∙◌, arith}
use Rattle.std.proofs.lemmas.List.{length-append, length-replicate, length-take}
use Rattle.text.specs.Texts.{filled}
use Rattle.text.specs.declared.texts.Text.TheInside.{Inside}

length_filled : (xs : List ℕ) → length (filled xs) ≡ length xs + (96 - length xs)
length_filled xs =
    let zero : ℕ = 0 in
    length-append xs (replicate (96 - length xs) zero) ∙ ap (λ n. length xs + n) (length-replicate (96 - length xs) zero)

-- the room of a text has 96 bytes
pub filled_long : (bs : List ℕ) (n : ℕ) → n ≤ 96 → bs ≡ filled (take n bs) → length bs ≡ 96
filled_long bs n short is = omega (arith, ap length is, length_filled (take n bs), length-take n bs)

-- and the bytes written are as many as its length says
pub filled_length : (bs : List ℕ) (n : ℕ) → n ≤ 96 → bs ≡ filled (take n bs) → length (take n bs) ≡ n
filled_length bs n short is = omega (arith, filled_long bs n short is, length-take n bs)

-- so a text is as long as its length says
pub filled_text : (bs : List ℕ) (n : ℕ) (text : List ℕ) → take n bs ≡ text → (n ≤ 96) × (bs ≡ filled (take n bs)) → length text ≡ n
filled_text bs n text view h = ap length (sym view) ∙ filled_length bs n h.0 h.1

pub filled_front : (t : Inside) → (t.len ≤ 96) × (t.bytes ≡ filled (take t.len t.bytes)) → record { bytes = filled (take t.len t.bytes); len = length (take t.len t.bytes) } ≡ t
filled_front t h = ap (λ bs. record { bytes = bs; len = length (take t.len t.bytes) }) (sym h.1) ∙ ap (λ n. record { bytes = t.bytes; len = n }) (filled_length t.bytes t.len h.0 h.1)
