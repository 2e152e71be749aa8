-- What a cut at the first b gives. Assumes nothing.
use Rattle.std.proofs.Common.{◌≡◌, ℕ, zero, suc, ◌+◌, ◌<◌, List, [], ◌∷◌, length, get_or, take, drop, Some, None, refl, add-one, arith}
use Rattle.std.proofs.lemmas.Grind.{common_steps}
use Rattle.text.specs.Cuts.{before, after}

-- i is the place of the first b
pub cut_at : (b : ℕ) (xs : List ℕ) (i : ℕ) → i < length xs → ((k : ℕ) → k < i → get_or xs k 0 ≡ b → ⊥) → get_or xs i 0 ≡ b → (before b xs ≡ take i xs) × (after b xs ≡ Some (drop (i + 1) xs))
cut_at b [] i l none here = absurd (omega arith)
cut_at b (x ∷ xs) zero l none here = grind (arith, common_steps)
cut_at b (x ∷ xs) (suc i) l none here =
    let on = cut_at b xs i (omega arith) (λ k h. none (suc k) (omega arith)) here in
    let other = none 0 (omega arith) in
    let past : drop (suc i + 1) (x ∷ xs) ≡ drop (i + 1) xs = simp add-one in
    grind arith

-- there is no b
pub cut_none : (b : ℕ) (xs : List ℕ) → ((k : ℕ) → k < length xs → get_or xs k 0 ≡ b → ⊥) → (before b xs ≡ xs) × (after b xs ≡ None)
cut_none b [] none = (refl, refl)
cut_none b (x ∷ xs) none =
    let on = cut_none b xs (λ k h. none (suc k) (omega arith)) in
    let other = none 0 (omega arith) in
    grind (arith, common_steps)
