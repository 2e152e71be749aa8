-- Lawful plans have one sheet if and only if they end every series of counts alike. Assumes nothing.
use Rattle.std.proofs.Common.{◌≡◌, ℕ, zero, suc, ◌+◌, ◌<◌, ◌≤◌, Bool, true, false, cond, List, [], ◌∷◌, map, length, get_or, take, Some, None, Option, sym, refl, ap, ◌∙◌, subst, ⊎_elim, arith}
use Rattle.std.proofs.ByRecursion.{All-get_or}
use Rattle.std.proofs.lemmas.List.{take_all, take-take}
use Rattle.std.proofs.lemmas.Bool.{cases_lt, cond-true, ltb-true, both_ways}
use Rattle.std.specs.List.{AllByRecursion}
use Rattle.plan.proofs.Judging.{rules_ruled, rules_one}
use Rattle.plan.specs.Boundaries.{Boundary, Lawful}
use Rattle.plan.specs.Rulings.{Rules, Ends, ruled, total}
use Rattle.plan.specs.declared.verdicts.Verdict.{Verdict}
use Rattle.sheet.proofs.Alike.{Alike, in_live, some_live, to_live, alike_from_row, alike_from_ruled, row_from_alike, some_alike, live_alike, rules_alike}
use Rattle.sheet.proofs.Pairs.{pair_bounds, pair_closes}
use Rattle.sheet.proofs.Series.{Comes, total_more, spread_in, first_comes, next_comes}
use Rattle.sheet.specs.Series.{EndAlike}
use Rattle.sheet.specs.Sheets.{lines_from, row_in, row_over, sheet}
use Rattle.sheet.specs.Spans.{In, past, whole, live, some_in, spread, first}
use Rattle.sheet.specs.declared.rows.Span.{Span}

-- Plans with one sheet rule alike on a series.
module _ (m : ℕ) (p q : Boundary) (xs : List ℕ) (small : AllByRecursion (λ x. x ≤ m) xs) where
  follow :
      (k j n : ℕ) (s : Span) → k + n ≡ p.last + 1 → j + n ≡ q.last + 1 → In s (total (take n xs))
      → map row_in (lines_from m p k n s) ≡ map row_in (lines_from m q j n s)
      → (end : ℕ) (v : Option Verdict) → n ≤ end → end ≤ p.last → end ≤ length xs
      → ((i : ℕ) → n ≤ i → i < end → Rules (p.pairs i) (total (take i xs)) None) → Rules (p.pairs end) (total (take end xs)) v
      → (end ≤ q.last) × ((i : ℕ) → n ≤ i → i < end → Rules (q.pairs i) (total (take i xs)) None) × Rules (q.pairs end) (total (take end xs)) v
  follow zero j n s to_p to_q at e end v from within reached before there = absurd (omega arith)
  follow (suc k) zero n s to_p to_q at e end v from within reached before there = cc
  follow (suc k) (suc j) n s to_p to_q at e end v from within reached before there =
      let head : row_over (p.pairs n) s ≡ row_over (q.pairs n) s = cc in
      let alike = alike_from_row (p.pairs n) (q.pairs n) s (omega arith) head in
      ⊎_elim
      (λ more.
      let here = before n (omega arith) more in
      let here_q = rules_alike (p.pairs n) (q.pairs n) s alike (total (take n xs)) at None here in
      let t = some_live (p.pairs n) s (total (take n xs)) at here in
      let u = some_live (q.pairs n) s (total (take n xs)) at here_q in
      let same = live_alike (p.pairs n) (q.pairs n) s alike t in
      let tail : map row_in (cond (some_in (live (p.pairs n) s)) (lines_from m p k (n + 1) (spread m (live (p.pairs n) s))) []) ≡ map row_in (cond (some_in (live (q.pairs n) s)) (lines_from m q j (n + 1) (spread m (live (q.pairs n) s))) []) = cc in
      let next : In (spread m (live (p.pairs n) s)) (total (take (n + 1) xs)) =
      subst (In (spread m (live (p.pairs n) s))) (sym (total_more xs n (omega arith)))
      (spread_in m (live (p.pairs n) s) (total (take n xs)) (get_or xs n 0) (to_live (p.pairs n) s (total (take n xs)) at here) (All-get_or (λ x. x ≤ m) xs n 0 (omega arith) small)) in
      let rest =
      follow k j (n + 1) (spread m (live (p.pairs n) s)) (omega arith) (omega arith) next
      (ap (map row_in) (sym (cond-true _ _ _ t)) ∙ tail ∙ ap (map row_in) (cond-true _ _ _ u) ∙ ap (λ l. map row_in (lines_from m q j (n + 1) (spread m l))) (sym same))
      end v (omega arith) within reached (λ i f l. before i (omega arith) l) there in
      (rest.0, λ i f l. ⊎_elim (λ above. rest.1 i (omega arith) l) (λ e. let now : n ≡ i = omega arith in subst (λ i. Rules (q.pairs i) (total (take i xs)) None) now here_q) (cases_lt n i), rest.2))
      (λ last.
      let now : n ≡ end = omega arith in (
        omega arith,
        λ i f l. absurd (omega arith),
        subst (λ i. Rules (q.pairs i) (total (take i xs)) v) now (rules_alike (p.pairs n) (q.pairs n) s alike (total (take n xs)) at v (subst (λ i. Rules (p.pairs i) (total (take i xs)) v) (sym now) there)),
      ))
      (cases_lt n end)

  ends_carried : sheet m p ≡ sheet m q → (n : ℕ) (v : Verdict) → Ends p xs n v → Ends q xs n v
  ends_carried e n v ends =
      let few : get_or xs 0 0 ≤ m = All-get_or (λ x. x ≤ m) xs 0 0 (omega (arith, ends.size, ends.reached)) small in
      let one : In (first m) (total (take 1 xs)) = (omega arith, omega (arith, total_more xs 0 (omega (arith, ends.size, ends.reached)))) in
      let so = follow p.last q.last 1 (first m) refl refl one e n (Some v) ends.size.0 ends.size.1 ends.reached ends.before ends.there in
      record { size = (ends.size.0, so.0); reached = ends.reached; before = so.1; there = so.2 }

pub ends_from_sheet : (m : ℕ) (p q : Boundary) → Lawful p → Lawful q → sheet m p ≡ sheet m q → EndAlike m p q
ends_from_sheet m p q law_p law_q e xs small n v = (ends_carried m p q xs small e n v, ends_carried m q p xs small (sym e) n v)

-- a lawful plan has a next size where a count is live
pub more_sizes : (b : Boundary) → Lawful b → (n : ℕ) (s : Span) → n ≤ b.last → some_in (live (b.pairs n) s) ≡ true → n + 1 ≤ b.last
more_sizes b law n s within t =
    ⊎_elim
    (λ below. omega arith)
    (λ end.
    let last : b.last ≡ n = omega arith in
    let closed : past (b.pairs n).0 ≡ whole (b.pairs n).1 = subst (λ k. past (b.pairs k).0 ≡ whole (b.pairs k).1) last (pair_closes b law) in
    absurd (omega (arith, ltb-true _ _ t)))
    (cases_lt n b.last)

-- Plans that rule alike on the counts that series come to, live by both, have one sheet.
module _ (m : ℕ) (p q : Boundary) where
  abbrev pub Both : ℕ → ℕ → Type 0
  Both n d = Rules (p.pairs n) d None × Rules (q.pairs n) d None

  abbrev pub Agree : Type 0
  Agree = (n d : ℕ) → 1 ≤ n → n ≤ p.last → n ≤ q.last → Comes m Both n d → ruled (p.pairs n) d ≡ ruled (q.pairs n) d

  module _ (law_p : Lawful p) (law_q : Lawful q) (agree : Agree) where
    same_rows :
        (k j n : ℕ) (s : Span) → k + n ≡ p.last + 1 → j + n ≡ q.last + 1 → 1 ≤ n → n ≤ p.last → n ≤ q.last → s.low < s.end
        → ((d : ℕ) → In s d → Comes m Both n d) → map row_in (lines_from m p k n s) ≡ map row_in (lines_from m q j n s)
    same_rows zero j n s to_p to_q one in_p in_q some from = absurd (omega arith)
    same_rows (suc k) zero n s to_p to_q one in_p in_q some from = absurd (omega arith)
    same_rows (suc k) (suc j) n s to_p to_q one in_p in_q some from =
        by_test (some_in (live (p.pairs n) s)) (some_in (live (q.pairs n) s)) refl refl
        (λ t u.
        let same = live_alike (p.pairs n) (q.pairs n) s alike t in
        let l : (live (p.pairs n) s).low < (live (p.pairs n) s).end = ltb-true _ _ t in
        same_rows k j (n + 1) (spread m (live (p.pairs n) s)) (omega arith) (omega arith) (omega arith) (more_sizes p law_p n s in_p t) (more_sizes q law_q n s in_q u) (omega arith)
        (next_comes m Both n (live (p.pairs n) s) l (λ c at.
        let here = in_live (p.pairs n) s c at in
        (from c here.0, (here.1, rules_alike (p.pairs n) (q.pairs n) s alike c here.0 None here.1))))
        ∙ ap (λ l. map row_in (lines_from m q j (n + 1) (spread m l))) same)
      where
        alike : Alike (p.pairs n) (q.pairs n) s
        alike = alike_from_ruled (p.pairs n) (q.pairs n) s (pair_bounds p law_p n one in_p).0 (pair_bounds q law_q n one in_q).0 (λ d at. agree n d one in_p in_q (from d at))

        back : Alike (q.pairs n) (p.pairs n) s
        back = record { accepts = sym alike.accepts; rejects = sym alike.rejects }

        by_test :
            (x y : Bool) → some_in (live (p.pairs n) s) ≡ x → some_in (live (q.pairs n) s) ≡ y
            → (some_in (live (p.pairs n) s) ≡ true → some_in (live (q.pairs n) s) ≡ true → map row_in (lines_from m p k (n + 1) (spread m (live (p.pairs n) s))) ≡ map row_in (lines_from m q j (n + 1) (spread m (live (q.pairs n) s))))
            → row_over (p.pairs n) s ∷ map row_in (cond x (lines_from m p k (n + 1) (spread m (live (p.pairs n) s))) []) ≡ row_over (q.pairs n) s ∷ map row_in (cond y (lines_from m q j (n + 1) (spread m (live (q.pairs n) s))) [])
        by_test true true t u rest = let e = rest t u in let row = row_from_alike (p.pairs n) (q.pairs n) s some alike in cc
        by_test true false t u rest = absurd (both_ways _ u (some_alike (p.pairs n) (q.pairs n) s some alike t))
        by_test false true t u rest = absurd (both_ways _ t (some_alike (q.pairs n) (p.pairs n) s some back u))
        by_test false false t u rest = ap (λ r. r ∷ []) (row_from_alike (p.pairs n) (q.pairs n) s some alike)

    pub sheet_from_rulings : sheet m p ≡ sheet m q
    sheet_from_rulings = same_rows p.last q.last 1 (first m) refl refl (omega arith) law_p.some law_q.some (omega arith) (first_comes m Both)

  -- the rulings on a count, from how the plans end one series that comes to it
  pub agree_on :
      (n d : ℕ) → 1 ≤ n → n ≤ p.last → n ≤ q.last → (from : Comes m Both n d)
      → (xs : List ℕ) → n ≤ length xs → take n xs ≡ from.counts → ((k : ℕ) (v : Verdict) → (Ends p xs k v → Ends q xs k v) × (Ends q xs k v → Ends p xs k v))
      → ruled (p.pairs n) d ≡ ruled (q.pairs n) d
  agree_on n d one in_p in_q from xs reached front same = by_ruling (ruled (p.pairs n) d) (ruled (q.pairs n) d) (rules_ruled (p.pairs n) d) (rules_ruled (q.pairs n) d)
    where
      sum : total (take n xs) ≡ d
      sum = ap total front ∙ from.sum

      lived : (k : ℕ) → 1 ≤ k → k < n → Both k (total (take k xs))
      lived k one below = subst (λ l. Both k (total l)) (ap (take k) (sym front) ∙ take-take k n xs (omega arith)) (from.lived k one below)

      by_ruling : (v w : Option Verdict) → Rules (p.pairs n) d v → Rules (q.pairs n) d w → v ≡ w
      by_ruling None None r t = refl
      by_ruling None (Some w) r t =
          let ends : Ends q xs n w = record { size = (one, in_q); reached = reached; before = λ k o l. (lived k o l).1; there = subst (λ c. Rules (q.pairs n) c (Some w)) (sym sum) t } in
          rules_one (p.pairs n) d None (Some w) r (subst (λ c. Rules (p.pairs n) c (Some w)) sum ((same n w).1 ends).there)
      by_ruling (Some v) w r t =
          let ends : Ends p xs n v = record { size = (one, in_p); reached = reached; before = λ k o l. (lived k o l).0; there = subst (λ c. Rules (p.pairs n) c (Some v)) (sym sum) r } in
          rules_one (q.pairs n) d (Some v) w (subst (λ c. Rules (q.pairs n) c (Some v)) sum ((same n v).0 ends).there) t

pub sheet_from_ends : (m : ℕ) (p q : Boundary) → Lawful p → Lawful q → EndAlike m p q → sheet m p ≡ sheet m q
sheet_from_ends m p q law_p law_q same =
    sheet_from_rulings m p q law_p law_q (λ n d one in_p in_q from.
    agree_on m p q n d one in_p in_q from from.counts (omega (arith, from.size)) (take_all n from.counts (omega (arith, from.size))) (same from.counts from.small))
