-- The worked examples, by computing. Assumes nothing.
use Rattle.std.proofs.Common.{◌≡◌, ℕ, zero, suc, ◌≤◌, Bool, true, ◌&&◌, List, take, pos, int_lt, None, refl, ⊎_elim, subst, rules, arith}
use Rattle.std.proofs.lemmas.Bool.{cases_lt, and_parts}
use Rattle.plan.specs.Boundaries.{Boundary}
use Rattle.plan.specs.Rulings.{Rules, total}
use Rattle.plan.specs.Examples.{ExamplesHold, ten, late_fault}

-- the count of a series at a size lies between the pair
abbrev live_test : Boundary → List ℕ → ℕ → Bool
live_test b xs k = int_lt (b.pairs k).0 (pos (total (take k xs))) && int_lt (pos (total (take k xs))) (b.pairs k).1

abbrev live_tests : Boundary → List ℕ → ℕ → Bool
live_tests b xs zero = true
live_tests b xs (suc n) = live_test b xs (suc n) && live_tests b xs n

live_from : (b : Boundary) (xs : List ℕ) (k : ℕ) → live_test b xs k ≡ true → Rules (b.pairs k) (total (take k xs)) None
live_from b xs k t =
    let both = and_parts (int_lt (b.pairs k).0 (pos (total (take k xs)))) (int_lt (pos (total (take k xs))) (b.pairs k).1) t in
    (search (rules, both), search (rules, both))

lives : (b : Boundary) (xs : List ℕ) (n : ℕ) → live_tests b xs n ≡ true → (k : ℕ) → 1 ≤ k → k ≤ n → Rules (b.pairs k) (total (take k xs)) None
lives b xs zero t k h l = absurd (omega arith)
lives b xs (suc n) t k h l =
    ⊎_elim
    (λ below. lives b xs n (and_parts (live_test b xs (suc n)) _ t).1 k h (omega arith))
    (λ above. let same : suc n ≡ k = omega arith in
    subst (λ m. Rules (b.pairs m) (total (take m xs)) None) same (live_from b xs (suc n) (and_parts _ (live_tests b xs n) t).0))
    (cases_lt k (suc n))

pub worked : ExamplesHold
worked = (
  refl,
  (
    refl,
    (
      refl,
      (
        refl,
        (
          refl,
          (
            refl,
            (
              refl,
              (
                refl,
                (
                  refl,
                  (
                    refl,
                    (
                      lives ten late_fault 49 refl,
                      (
                        record { size = (omega arith, omega arith); reached = omega arith; before = λ k h l. lives ten late_fault 49 refl k h (omega arith); there = record { le = tt } },
                        (
                          record { size = (omega arith, omega arith); reached = omega arith; before = λ k h l. absurd (omega arith); there = (record { lt = tt }, record { le = tt }) },
                          tt,
                        ),
                      ),
                    ),
                  ),
                ),
              ),
            ),
          ),
        ),
      ),
    ),
  ),
)
