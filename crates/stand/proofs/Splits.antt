-- A list with one more element at its end, and how it splits. Assumes nothing.
use Rattle.std.proofs.Common.{◌≡◌, ◌⊎◌, List, [], ◌∷◌, ◌++◌, sym, refl, ap, ◌∙◌, inl, inr, ⊎_elim, append_assoc}
use Rattle.std.proofs.lemmas.List.{same_from_push}
use Rattle.std.specs.List.{AllByRecursion}

module _ {A : Type 0} where
  -- a list is empty, or has a last element
  last_of : (xs : List A) → (xs ≡ []) ⊎ ((ys : List A) × (y : A) × (xs ≡ ys ++ (y ∷ [])))
  last_of [] = inl refl
  last_of (x ∷ xs) =
      ⊎_elim
      (λ e. inr ([], x, ap (λ l. x ∷ l) e))
      (λ t. inr (x ∷ t.0, t.1, ap (λ l. x ∷ l) t.2))
      (last_of xs)

  -- a split of a list with x at its end splits at x, or splits the list before x
  pub split_push :
      (xs h : List A) (x s : A) (t : List A) → xs ++ (x ∷ []) ≡ h ++ (s ∷ t)
      → ((h ≡ xs) × (s ≡ x) × (t ≡ [])) ⊎ ((u : List A) × (t ≡ u ++ (x ∷ [])) × (xs ≡ h ++ (s ∷ u)))
  split_push xs h x s t e =
      ⊎_elim
      (λ none.
      let q = same_from_push xs h x s (e ∙ ap (λ l. h ++ (s ∷ l)) none) in
      inl (sym q.0, sym q.1, none))
      (λ some.
      let joined : xs ++ (x ∷ []) ≡ (h ++ (s ∷ some.0)) ++ (some.1 ∷ []) = e ∙ ap (λ l. h ++ (s ∷ l)) some.2 ∙ sym (append_assoc h (s ∷ some.0) (some.1 ∷ [])) in
      let q = same_from_push xs (h ++ (s ∷ some.0)) x some.1 joined in
      inr (some.0, some.2 ∙ ap (λ y. some.0 ++ (y ∷ [])) (sym q.1), q.0))
      (last_of t)

  pub all_before : (P : A → Type 0) (xs : List A) (x : A) → AllByRecursion P (xs ++ (x ∷ [])) → AllByRecursion P xs × P x
  all_before P [] x a = (tt, a.0)
  all_before P (y ∷ xs) x a = let r = all_before P xs x a.1 in ((a.0, r.0), r.1)
