-- A plan ends a series in one way, and no item after the end matters. Assumes nothing.
use Rattle.std.proofs.Common.{◌≡◌, ℕ, ◌<◌, ◌≤◌, min, List, length, take, Some, None, Option, sym, refl, ap, ◌∙◌, subst, ⊎_elim, arith}
use Rattle.std.proofs.lemmas.List.{length-take, take-take}
use Rattle.std.proofs.lemmas.Bool.{cases_lt}
use Rattle.plan.specs.Boundaries.{Boundary}
use Rattle.plan.specs.Rulings.{Rules, total, Ends, Judges}
use Rattle.plan.specs.declared.verdicts.Verdict.{Verdict}
use Rattle.plan.proofs.Judging.{rules_one}

module _ (b : Boundary) where
  -- series with the same items up to the end
  pub ends_on : (xs ys : List ℕ) (n : ℕ) (v : Verdict) → take n xs ≡ take n ys → n ≤ length ys → Ends b xs n v → Ends b ys n v
  ends_on xs ys n v same reached e = record {
    size = e.size;
    reached = reached;
    before = λ k one below. subst (λ d. Rules (b.pairs k) d None) (counts k (omega arith)) (e.before k one below);
    there = subst (λ d. Rules (b.pairs n) d (Some v)) (ap total same) e.there;
  }
    where
      counts : (k : ℕ) → k ≤ n → total (take k xs) ≡ total (take k ys)
      counts k h = ap total (sym (take-take k n xs h) ∙ ap (take k) same ∙ take-take k n ys h)

  none_sooner : (xs : List ℕ) (n k : ℕ) (v w : Verdict) → Ends b xs n v → Ends b xs k w → n ≤ k
  none_sooner xs n k v w e f =
      ⊎_elim
      (λ sooner.
      let same : ◌≡◌ {A = Option Verdict} (Some w) None = rules_one _ _ (Some w) None f.there (e.before k f.size.0 sooner) in
      cc)
      (λ h. h)
      (cases_lt k n)

  -- one end, with one verdict
  ends_one : (xs : List ℕ) (n k : ℕ) (v w : Verdict) → Ends b xs n v → Ends b xs k w → (n ≡ k) × (◌≡◌ {A = Option Verdict} (Some v) (Some w))
  ends_one xs n k v w e f =
      let same : n ≡ k = omega (arith, none_sooner xs n k v w e f, none_sooner xs k n w v f e) in
      (same, rules_one _ _ (Some v) (Some w) (subst (λ j. Rules (b.pairs j) (total (take j xs)) (Some v)) same e.there) f.there)

  pub judges_one : (xs : List ℕ) (v w : Option Verdict) → Judges b xs v → Judges b xs w → v ≡ w
  judges_one xs None None j k = refl
  judges_one xs None (Some w) j k = absurd (j k.0 w k.1)
  judges_one xs (Some v) None j k = absurd (k j.0 v j.1)
  judges_one xs (Some v) (Some w) j k = (ends_one xs _ _ v w j.1 k.1).1

  -- no verdict before the end
  pub undecided : (xs : List ℕ) (n : ℕ) (v : Verdict) → Ends b xs n v → (k : ℕ) → k < n → Judges b (take k xs) None
  undecided xs n v e k below j w f =
      let short : j ≤ min k (length xs) = subst (λ l. j ≤ l) (length-take k xs) f.reached in
      let sooner : Ends b xs j w = ends_on (take k xs) xs j w (take-take j k xs (omega arith)) (omega arith) f in
      omega (arith, (ends_one xs j n w v sooner e).0)
