-- Rulings and where plans end a series. Assumes nothing.
use Rattle.std.proofs.Common.{◌≡◌, ℕ, zero, suc, ◌+◌, ◌<◌, ◌≤◌, Bool, true, false, cond, leb, List, [], ◌∷◌, ◌++◌, length, take, ℤ, pos, Some, None, Option, sym, refl, ap, ◌∙◌, subst, ⊎_elim, add_assoc, arith}
use lib.Signed.{le_z}
use Rattle.std.proofs.lemmas.List.{length_push, take_all, take-append-le}
use Rattle.std.proofs.lemmas.Int.{ints}
use Rattle.std.proofs.lemmas.Bool.{cases_lt, cond-true, cond-false, le-leb, lt-leb, and_from, and_right}
use Rattle.plan.specs.Boundaries.{Boundary, Lawful, asked}
use Rattle.plan.specs.Rulings.{Rules, ruled, ruled_by, ruling_at, total, Ends, Judges}
use Rattle.plan.specs.declared.verdicts.Verdict.{Verdict}
use Rattle.plan.specs.declared.verdicts.Verdict.TheVariants.{Accept, Reject}

-- a pair rules every count in just one way
pub rules_ruled : (p : ℤ × ℤ) (d : ℕ) → Rules p d (ruled p d)
rules_ruled p d = by_test (le_z (pos d) p.0) refl (le_z p.1 (pos d)) refl
  where
    by_test : (x : Bool) → le_z (pos d) p.0 ≡ x → (y : Bool) → le_z p.1 (pos d) ≡ y → Rules p d (cond x (Some Accept) (cond y (Some Reject) None))
    by_test true e y f = grind (arith, ints)
    by_test false e true f = grind (arith, ints)
    by_test false e false f = grind (arith, ints)

pub rules_one : (p : ℤ × ℤ) (d : ℕ) (v w : Option Verdict) → Rules p d v → Rules p d w → v ≡ w
rules_one p d None None r s = refl
rules_one p d None (Some Accept) r s = absurd (omega (arith, ints))
rules_one p d None (Some Reject) r s = absurd (omega (arith, ints))
rules_one p d (Some Accept) None r s = absurd (omega (arith, ints))
rules_one p d (Some Reject) None r s = absurd (omega (arith, ints))
rules_one p d (Some Accept) (Some Accept) r s = refl
rules_one p d (Some Accept) (Some Reject) r s = absurd (omega (arith, ints))
rules_one p d (Some Reject) (Some Accept) r s = absurd (omega (arith, ints))
rules_one p d (Some Reject) (Some Reject) r s = refl

pub total_push : (xs : List ℕ) (n : ℕ) → total (xs ++ (n ∷ [])) ≡ total xs + n
total_push [] n = omega arith
total_push (x ∷ xs) n = ap (λ t. x + t) (total_push xs n) ∙ sym (add_assoc x (total xs) n)

module _ (b : Boundary) where
  -- the count of a series at a size is live there
  abbrev pub Live : List ℕ → ℕ → Type 0
  Live xs k = Rules (b.pairs k) (total (take k xs)) None

  -- a series without a verdict is live at every size that it has reached
  pub live_at : (xs : List ℕ) → Judges b xs None → (n k : ℕ) → 1 ≤ k → k ≤ n → k ≤ length xs → k ≤ b.last → Live xs k
  live_at xs none zero k one to reached within = absurd (omega arith)
  live_at xs none (suc n) k one to reached within =
      ⊎_elim
      (λ below. live_at xs none n k one (omega arith) reached within)
      (λ above. by_ruling (ruled (b.pairs k) (total (take k xs))) (rules_ruled (b.pairs k) (total (take k xs))) (λ j l h. live_at xs none n j l (omega arith) (omega arith) (omega arith)))
      (cases_lt k (suc n))
    where
      by_ruling : (v : Option Verdict) → Rules (b.pairs k) (total (take k xs)) v → ((j : ℕ) → 1 ≤ j → j < k → Live xs j) → Live xs k
      by_ruling None r before = r
      by_ruling (Some w) r before = absurd (none k w (record { size = (one, within); reached = reached; before = before; there = r }))

  -- a lawful plan leaves no series live at its last size
  pub unfinished : Lawful b → (xs : List ℕ) → Judges b xs None → length xs < b.last
  unfinished law xs none =
      ⊎_elim
      (λ below. below)
      (λ reached.
      let live = live_at xs none b.last b.last law.some (omega arith) reached (omega arith) in
      let closed = law.closed in
      absurd (omega (arith, ints)))
      (cases_lt (length xs) b.last)

  asked_at : (n : ℕ) → 1 ≤ n → n ≤ b.last → asked b n ≡ Some (b.pairs n)
  asked_at n one within = cond-true _ _ _ (and_from _ _ (le-leb 1 n one) (le-leb n b.last within))

  asked_past : (n : ℕ) → b.last < n → asked b n ≡ None
  asked_past n past = cond-false _ _ _ (and_right (leb 1 n) _ (lt-leb n b.last past))

  module _ (xs : List ℕ) (n : ℕ) where
    abbrev longer : List ℕ
    longer = xs ++ (n ∷ [])

    same_front : (k : ℕ) → k ≤ length xs → total (take k longer) ≡ total (take k xs)
    same_front k h = ap total (take-append-le k xs (n ∷ []) h)

    whole : total (take (length xs + 1) longer) ≡ total xs + n
    whole = ap total (take_all (length xs + 1) longer (omega (arith, length_push xs n))) ∙ total_push xs n

    -- an end within the front is an end of the front
    shorter : (k : ℕ) (v : Verdict) → k ≤ length xs → Ends b longer k v → Ends b xs k v
    shorter k v h e = record {
      size = e.size;
      reached = h;
      before = λ j one below. subst (λ d. Rules (b.pairs j) d None) (same_front j (omega arith)) (e.before j one below);
      there = subst (λ d. Rules (b.pairs k) d (Some v)) (same_front k h) e.there;
    }

    -- one more item: the plan's verdict is its ruling on the count now
    pub judged_more : Judges b xs None → Judges b longer (ruling_at b (length xs + 1) (total xs + n))
    judged_more none =
        ⊎_elim
        (λ past. subst (λ o. Judges b longer (ruled_by o (total xs + n))) (sym (asked_past (length xs + 1) past)) (λ k v e. none k v (shorter k v (omega (arith, e.size)) e)))
        (λ within.
        subst (λ o. Judges b longer (ruled_by o (total xs + n))) (sym (asked_at (length xs + 1) (omega arith) (omega arith)))
        (by_ruling (omega arith) (ruled (b.pairs (length xs + 1)) (total xs + n)) (rules_ruled (b.pairs (length xs + 1)) (total xs + n))))
        (cases_lt b.last (length xs + 1))
      where
        by_ruling : length xs + 1 ≤ b.last → (v : Option Verdict) → Rules (b.pairs (length xs + 1)) (total xs + n) v → Judges b longer v
        by_ruling within None r = λ k w e.
            ⊎_elim
            (λ front. none k w (shorter k w (omega arith) e))
            (λ end.
            let k_is : k ≡ length xs + 1 = omega (arith, e.reached, length_push xs n) in
            let there : Rules (b.pairs (length xs + 1)) (total xs + n) (Some w) = subst (λ d. Rules (b.pairs (length xs + 1)) d (Some w)) whole (subst (λ j. Rules (b.pairs j) (total (take j longer)) (Some w)) k_is e.there) in
            let same : ◌≡◌ {A = Option Verdict} None (Some w) = rules_one _ _ None (Some w) r there in
            cc)
            (cases_lt k (length xs + 1))
        by_ruling within (Some w) r = (
          length xs + 1,
          record {
            size = (omega arith, within);
            reached = omega (arith, length_push xs n);
            before = λ k one below. subst (λ d. Rules (b.pairs k) d None) (sym (same_front k (omega arith))) (live_at xs none k k one (omega arith) (omega arith) (omega arith));
            there = subst (λ d. Rules (b.pairs (length xs + 1)) d (Some w)) (sym whole) r;
          },
        )
