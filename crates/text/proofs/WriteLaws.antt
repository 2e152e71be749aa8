-- Bytes written over a buffer, one part after another. Assumes nothing.
use Rattle.std.proofs.Common.{◌≡◌, ℕ, ◌+◌, ◌<◌, ◌≤◌, List, [], ◌∷◌, ◌++◌, length, take, drop, set, sym, ap, ◌∙◌, append_assoc, add-one, arith}
use Rattle.std.proofs.lemmas.Grind.{common_steps}
use Rattle.std.proofs.lemmas.List.{length-append, set_split, drop-drop}
use Rattle.text.specs.Writes.{over, put_at}

pub set_put : (xs : List ℕ) (i b : ℕ) → i < length xs → set xs i b ≡ put_at xs i (b ∷ [])
set_put xs i b inside = rw (add-one) (set_split xs i b inside)

pub over_put : (xs t : List ℕ) → put_at xs 0 t ≡ over t xs
over_put xs t = grind arith

module _ (xs : List ℕ) (a : ℕ) (x : List ℕ) (inside : a + length x ≤ length xs) where
  pub length_put : length (put_at xs a x) ≡ length xs
  length_put = grind (arith, common_steps)

  pub put_put : (y : List ℕ) → put_at (put_at xs a x) (a + length x) y ≡ put_at xs a (x ++ y)
  put_put y =
      let kept : take (a + length x) (put_at xs a x) ≡ take a xs ++ x = grind (arith, common_steps) in
      let past : drop (a + length x) (put_at xs a x) ≡ drop (a + length x) xs = grind (arith, common_steps) in
      let ends : drop (a + length x + length y) (put_at xs a x) ≡ drop (a + length (x ++ y)) xs =
      sym (drop-drop (length y) (a + length x) _) ∙ ap (drop (length y)) past ∙ drop-drop (length y) (a + length x) xs ∙ ap (λ n. drop n xs) (omega (arith, length-append x y)) in
      grind (arith, append_assoc)

-- one more part, where each part is known by what it wrote and the place after it
pub put_then : (xs ys zs : List ℕ) (a b : ℕ) (x y : List ℕ) → a + length x ≤ length xs → ys ≡ put_at xs a x → b ≡ a + length x → zs ≡ put_at ys b y → zs ≡ put_at xs a (x ++ y)
put_then xs ys zs a b x y inside first place next = grind (arith, put_put)

pub place_then : (a b r : ℕ) (x y : List ℕ) → b ≡ a + length x → r ≡ b + length y → r ≡ a + length (x ++ y)
place_then a b r x y first next = omega (arith, length-append x y)
