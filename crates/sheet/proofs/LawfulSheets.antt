-- The sheet of a lawful plan has lawful rows, at least one and at most 4,096. Assumes nothing.
use Rattle.std.proofs.Common.{◌≡◌, ℕ, zero, suc, ◌+◌, ◌-◌, ◌<◌, ◌≤◌, min, max, Bool, true, false, cond, not, ltb, List, [], ◌∷◌, map, length, ℤ, Some, None, sym, refl, ap, ◌∙◌, subst, ⊎_elim, arith}
use Rattle.std.proofs.lemmas.List.{length-map}
use Rattle.std.proofs.lemmas.Bool.{cases_lt, cond-true, ltb-true}
use Rattle.std.proofs.lemmas.Bool.Decides.{nat_tests}
use Rattle.plan.specs.Boundaries.{Boundary, Lawful}
use Rattle.sheet.proofs.Lawfulness.{Low}
use Rattle.sheet.proofs.Loads.{rows_at, first_low}
use Rattle.sheet.proofs.Pairs.{pair_bounds, pair_closes}
use Rattle.sheet.proofs.Steps.{sheet_few}
use Rattle.sheet.specs.Sheets.{row_over, row_in, lines_from, lines, sheet}
use Rattle.sheet.specs.Spans.{span, past, whole, live, some_in, spread, first}
use Rattle.sheet.specs.Tables.{above, up_to, live_of, lawful_row, is_nil, first_unlawful}
use Rattle.sheet.specs.declared.rows.Row.{Row}
use Rattle.sheet.specs.declared.rows.Span.{Span}

-- the row over a span of a pair that accepts the counts below a and rejects those from w on, by the tests of its numbers
module _ (a w : ℕ) (s : Span) where
  abbrev shown : Bool → Bool → Row
  shown x y = record { acceptance = cond x (Some (min s.end a - 1)) None; rejection = cond y (Some (max s.low w)) None }

  abbrev between : Span
  between = span (max s.low a) (min s.end w)

  module _ (low : Low s) (ordered : a ≤ w) (bounded : w ≤ 254) where
    shown_lawful : (t x y : Bool) → some_in between ≡ t → ltb s.low a ≡ x → ltb w s.end ≡ y → lawful_row (not t) (shown x y) s ≡ true
    shown_lawful t true true g e f = grind (arith, nat_tests)
    shown_lawful t true false g e f = grind (arith, nat_tests)
    shown_lawful t false true g e f = grind (arith, nat_tests)
    shown_lawful t false false g e f = grind (arith, nat_tests)

    module _ (some : some_in between ≡ true) where
      same_low : (x : Bool) → ltb s.low a ≡ x → max s.low (above (cond x (Some (min s.end a - 1)) None)) ≡ max s.low a
      same_low true e = grind (arith, nat_tests)
      same_low false e = grind (arith, nat_tests)

      same_end : (y : Bool) → ltb w s.end ≡ y → up_to s.end (cond y (Some (max s.low w)) None) ≡ min s.end w
      same_end true e = grind (arith, nat_tests)
      same_end false e = grind (arith, nat_tests)

module _ (q : ℤ × ℤ) (s : Span) (low : Low s) (bounds : (past q.0 ≤ whole q.1) × (whole q.1 ≤ 254)) where
  row_lawful : (t : Bool) → some_in (live q s) ≡ t → lawful_row (not t) (row_over q s) s ≡ true
  row_lawful t g = shown_lawful (past q.0) (whole q.1) s low bounds.0 bounds.1 t _ _ g refl refl

  row_live : some_in (live q s) ≡ true → live_of (row_over q s) s ≡ live q s
  row_live g =
      ap (λ l. span l (live_of (row_over q s) s).end) (same_low (past q.0) (whole q.1) s low bounds.0 bounds.1 g _ refl)
      ∙ ap (span (live q s).low) (same_end (past q.0) (whole q.1) s low bounds.0 bounds.1 g _ refl)

not_nil : (rs : List Row) → 1 ≤ length rs → is_nil rs ≡ false
not_nil [] h = absurd (omega arith)
not_nil (r ∷ rs) h = refl

module _ (m : ℕ) (p : Boundary) (law : Lawful p) where
  -- a count is live only before the last size
  before_last : (n : ℕ) (s : Span) → n ≤ p.last → some_in (live (p.pairs n) s) ≡ true → n < p.last
  before_last n s to g = ⊎_elim (λ h. h) at_last (cases_lt n p.last)
    where
      at_last : p.last ≤ n → n < p.last
      at_last h =
          let same : p.last ≡ n = omega arith in
          let closes = subst (λ k. past (p.pairs k).0 ≡ whole (p.pairs k).1) same (pair_closes p law) in
          absurd (omega (arith, ltb-true (live (p.pairs n) s).low (live (p.pairs n) s).end g))

  rows_some : (k n : ℕ) (s : Span) → 1 ≤ k → 1 ≤ length (map row_in (lines_from m p k n s))
  rows_some zero n s h = absurd (omega arith)
  rows_some (suc k) n s h = omega arith

  -- the rows from a size on, where the counts s are reached
  rows_lawful : (k n i : ℕ) (s : Span) → k + n ≡ p.last + 1 → 1 ≤ n → Low s → first_unlawful m i s (map row_in (lines_from m p k n s)) ≡ None
  rows_lawful zero n i s size one low = refl
  rows_lawful (suc k) n i s size one low = by_test (some_in (live (p.pairs n) s)) refl (λ next. rows_lawful k (n + 1) (i + 1) (spread m (live (p.pairs n) s)) (omega arith) (omega arith) next)
    where
      bounds : (past (p.pairs n).0 ≤ whole (p.pairs n).1) × (whole (p.pairs n).1 ≤ 254)
      bounds = pair_bounds p law n one (omega arith)

      by_test : (t : Bool) → some_in (live (p.pairs n) s) ≡ t
          → (Low (spread m (live (p.pairs n) s)) → first_unlawful m (i + 1) (spread m (live (p.pairs n) s)) (map row_in (lines_from m p k (n + 1) (spread m (live (p.pairs n) s)))) ≡ None)
          → first_unlawful m i s (map row_in (lines_from m p (suc k) n s)) ≡ None
      by_test true g after =
          let q = p.pairs n in
          let next = spread m (live q s) in
          let some : (live q s).low < (live q s).end = ltb-true _ _ g in
          let more : 1 ≤ k = omega (arith, before_last n s (omega arith) g) in
          let lawful = subst (λ x. lawful_row x (row_over q s) s ≡ true) (sym (not_nil _ (rows_some k (n + 1) next more))) (row_lawful q s low bounds true g) in
          ap (first_unlawful m i s) (rows_at m p k n s q true refl g)
          ∙ cond-true _ _ _ lawful
          ∙ ap (λ u. first_unlawful m (i + 1) (spread m u) (map row_in (lines_from m p k (n + 1) next))) (row_live q s low bounds g)
          ∙ after (record { some = omega arith; low = omega (arith, bounds) })
      by_test false g after = ap (first_unlawful m i s) (rows_at m p k n s (p.pairs n) false refl g) ∙ cond-true _ _ _ (row_lawful (p.pairs n) s low bounds false g)

  pub sheet_lawful : first_unlawful m 1 (first m) (sheet m p) ≡ None
  sheet_lawful = rows_lawful p.last 1 1 (first m) refl (omega arith) (first_low m)

  pub sheet_some : 1 ≤ length (sheet m p)
  sheet_some = rows_some p.last 1 (first m) law.some

  pub sheet_most : length (sheet m p) ≤ 4096
  sheet_most = omega (arith, length-map (lines m p) row_in, sheet_few m p law)
