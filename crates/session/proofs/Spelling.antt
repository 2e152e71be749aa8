-- Bytes written over a buffer, one part after another. Assumes nothing.
use Rattle.std.proofs.Common.{◌≡◌, ℕ, ◌+◌, ◌-◌, ◌*◌, ◌/◌, ◌%◌, ◌<◌, ◌≤◌, List, [], ◌∷◌, ◌++◌, map, length, get_or, take, drop, decimal, sym, refl, ap, ◌∙◌, append_assoc, append-nil, one-add, arith}
use Rattle.std.proofs.lemmas.List.{map_more, take_all, take-append-drop, drop-take, drop-drop}
use Rattle.std.proofs.lemmas.Fmt.{decimal_digit, decimal_step}
use Rattle.text.specs.Words.{spaced_on}
use Rattle.text.specs.Writes.{over, put_at}
use Rattle.text.proofs.WriteLaws.{over_put, put_then, place_then}
use Rattle.session.specs.Replies.{field_text, reply_line, Spelt}
use Rattle.session.specs.declared.replies.Field.{Field}

spaced_on_push : (ws : List (List ℕ)) (w : List ℕ) → spaced_on (ws ++ (w ∷ [])) ≡ spaced_on ws ++ (32 ∷ w)
spaced_on_push [] w = ap (λ l. 32 ∷ l) (append-nil w)
spaced_on_push (v ∷ ws) w = ap (λ l. 32 ∷ (v ++ l)) (spaced_on_push ws w) ∙ ap (λ l. 32 ∷ l) (sym (append_assoc v (spaced_on ws) (32 ∷ w)))

-- what is written of the first i fields, after the letter
abbrev pub first : List Field → ℕ → List ℕ
first fields i = spaced_on (map field_text (take i fields))

first_more : (fields : List Field) (i : ℕ) (d : Field) → i < length fields → first fields (i + 1) ≡ first fields i ++ (32 ∷ field_text (get_or fields i d))
first_more fields i d inside = ap spaced_on (map_more field_text fields i d inside) ∙ spaced_on_push (map field_text (take i fields)) (field_text (get_or fields i d))

-- how far a reply is written after i fields; out holds the letter
pub record Begun (fields : List Field) (out out' : List ℕ) (i at : ℕ) : Type 0 where
  pub within : i ≤ length fields
  pub few : length fields ≤ 8
  pub long : 96 ≤ length out
  pub bytes : out' ≡ put_at out 1 (first fields i)
  pub place : at ≡ 1 + length (first fields i)
  pub short : at ≤ 1 + 11 * i

pub begun : (fields : List Field) (out : List ℕ) (at : ℕ) → length fields ≤ 8 → 96 ≤ length out → at ≡ 0 + 1 → Begun fields out out 0 at
begun fields out at few long place = record {
  within = omega arith;
  few = few;
  long = long;
  bytes = sym (take-append-drop 1 out);
  place = place;
  short = omega arith;
}

pub begun_more : (fields : List Field) (out out' out'' : List ℕ) (i at r : ℕ) (d : Field) → i < length fields → Begun fields out out' i at → out'' ≡ put_at out' at (32 ∷ field_text (get_or fields i d)) → r ≡ at + length (32 ∷ field_text (get_or fields i d)) → length (field_text (get_or fields i d)) ≤ 10 → Begun fields out out'' (i + 1) r
begun_more fields out out' out'' i at r d inside b next place small =
    let more = first_more fields i d inside in
    record {
      within = omega arith;
      few = b.few;
      long = b.long;
      bytes = put_then out out' out'' 1 at (first fields i) _ (omega (arith, b.place, b.short, b.few, b.long)) b.bytes b.place next ∙ ap (put_at out 1) (sym more);
      place = place_then 1 at r (first fields i) _ b.place place ∙ ap (λ l. 1 + length l) (sym more);
      short = omega (arith, b.short);
    }

-- the whole reply: the letter, the fields and a line feed
pub spelt : (letter : ℕ) (fields : List Field) (out out₁ out' out'' : List ℕ) (i at r : ℕ) → 96 ≤ length out → out₁ ≡ put_at out 0 (letter ∷ []) → length fields ≤ i → Begun fields out₁ out' i at → out'' ≡ put_at out' at (10 ∷ []) → r ≡ at + 1 → Spelt (reply_line letter fields) out out'' r
spelt letter fields out out₁ out' out'' i at r long first_byte all b next place =
    let whole : first fields i ≡ spaced_on (map field_text fields) = ap (λ l. spaced_on (map field_text l)) (take_all i fields all) in
    let text : first fields i ++ (10 ∷ []) ≡ spaced_on (map field_text fields) ++ (10 ∷ []) = ap (λ l. l ++ (10 ∷ [])) whole in
    let rest : out'' ≡ put_at out₁ 1 (spaced_on (map field_text fields) ++ (10 ∷ [])) = put_then out₁ out' out'' 1 at (first fields i) (10 ∷ []) (omega (arith, b.place, b.short, b.within, b.few, b.long)) b.bytes b.place next ∙ ap (put_at out₁ 1) text in
    record {
      bytes = put_then out out₁ out'' 0 1 (letter ∷ []) (spaced_on (map field_text fields) ++ (10 ∷ [])) (omega arith) first_byte refl rest ∙ over_put out (reply_line letter fields);
      count = place_then 1 at r (first fields i) (10 ∷ []) b.place place ∙ ap (λ l. 1 + length l) text ∙ one-add _;
      short = omega (arith, b.short, b.within, b.few);
    }

-- bytes written over the first 96 of a buffer are written over the buffer
pub over_chunk : (t b : List ℕ) → length t ≤ 96 → over t (take 96 b) ++ drop 96 b ≡ over t b
over_chunk t b h =
    let n = length t in
    let m = 96 - n in
    let e : n + m ≡ 96 = omega arith in
    let front : drop n (take 96 b) ≡ take m (drop n b) = ap (λ k. drop n (take k b)) (sym e) ∙ drop-take n m b in
    let back : drop 96 b ≡ drop m (drop n b) = sym (drop-drop m n b ∙ ap (λ k. drop k b) e) in
    append_assoc t (drop n (take 96 b)) (drop 96 b) ∙ ap (λ l. t ++ (l ++ drop 96 b)) front ∙ ap (λ l. t ++ (take m (drop n b) ++ l)) back ∙ ap (λ l. t ++ l) (take-append-drop m (drop n b))

-- a number of two digits
pub two_digits : (n : ℕ) → 10 ≤ n → n < 100 → decimal n ≡ (48 + n / 10) ∷ (48 + n % 10) ∷ []
two_digits n many few = decimal_step n many (omega arith) ∙ ap (λ l. l ++ ((48 + n % 10) ∷ [])) (decimal_digit (n / 10) (omega arith))
