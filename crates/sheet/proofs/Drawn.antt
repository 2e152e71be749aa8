-- The sheet of a lawful plan shows what series of items reach at each size. Assumes nothing.
use Rattle.std.proofs.Common.{◌≡◌, ℕ, zero, suc, ◌+◌, ◌-◌, ◌<◌, ◌≤◌, min, max, Bool, true, false, cond, ltb, List, [], ◌∷◌, map, length, get_or, take, Some, None, sym, refl, ap, ◌∙◌, subst, arith}
use mathlib.Core.Logic.{∥∥₁_elim, ∥∥₁_map}
use native.Mathlib.Bridge.{le_prop}
use Rattle.std.proofs.lemmas.List.{length-map}
use Rattle.std.proofs.lemmas.Bool.{ltb-true, ltb-false, both_ways}
use Rattle.plan.specs.Boundaries.{Boundary, Lawful}
use Rattle.plan.specs.Items.{Kind}
use Rattle.plan.specs.Rulings.{Rules, total}
use Rattle.plan.specs.declared.verdicts.Verdict.TheVariants.{Accept, Reject}
use Rattle.sheet.proofs.Alike.{in_live, to_live, some_live}
use Rattle.sheet.proofs.Ends.{more_sizes}
use Rattle.sheet.proofs.ItemEnds.{scores_small, lifted}
use Rattle.sheet.proofs.Pairs.{pair_bounds, accepted, from_accepted, rejected, from_rejected}
use Rattle.sheet.proofs.Series.{Comes, first_comes, next_comes, first_holds, next_holds}
use Rattle.sheet.proofs.Steps.{lines_few}
use Rattle.sheet.specs.Series.{Greatest, Smallest, blank, Reaches, Shows, SheetOf}
use Rattle.sheet.specs.Sheets.{Line, lines_from, lines, row_in, row_over, sheet}
use Rattle.sheet.specs.Spans.{In, past, whole, live, some_in, spread, first}
use Rattle.sheet.specs.declared.rows.Row.{Row}
use Rattle.sheet.specs.declared.rows.Span.{Span}

module _ (m : ℕ) (b : Boundary) (law : Lawful b) where
  abbrev Live : ℕ → ℕ → Type 0
  Live n d = Rules (b.pairs n) d None

  -- The counts of a span are those that series come to at a size.
  record Spans (n : ℕ) (s : Span) : Type 0 where
    size : (1 ≤ n) × (n ≤ b.last)
    some : s.low < s.end
    comes : (d : ℕ) → In s d → Comes m Live n d
    holds : (d : ℕ) → Comes m Live n d → In s d

  first_spans : Spans 1 (first m)
  first_spans = record { size = (omega arith, law.some); some = omega arith; comes = first_comes m Live; holds = first_holds m Live }

  next_spans : (n : ℕ) (s : Span) → Spans n s → some_in (live (b.pairs n) s) ≡ true → Spans (n + 1) (spread m (live (b.pairs n) s))
  next_spans n s at t =
      let l : (live (b.pairs n) s).low < (live (b.pairs n) s).end = ltb-true _ _ t in record {
        size = (omega arith, more_sizes b law n s at.size.1 t);
        some = omega arith;
        comes = next_comes m Live n (live (b.pairs n) s) l (λ c in_c. let here = in_live (b.pairs n) s c in_c in (at.comes c here.0, here.1));
        holds = next_holds m Live n (live (b.pairs n) s) at.size.0 (λ c from here. to_live (b.pairs n) s c (at.holds c from) here);
      }

  -- Row i of some rows is that of a span at a size, and rows follow where a count is live.
  record RowAt (rows : List Row) (i n : ℕ) : Type 0 where
    span : Span
    spans : Spans n span
    row : get_or rows i blank ≡ row_over (b.pairs n) span
    goes : suc i < length rows → some_in (live (b.pairs n) span) ≡ true
    stops : suc i ≡ length rows → some_in (live (b.pairs n) span) ≡ false

  later : (r : Row) (rs : List Row) (i n : ℕ) → RowAt rs i n → RowAt (r ∷ rs) (suc i) n
  later r rs i n at = record { span = at.span; spans = at.spans; row = at.row; goes = λ h. at.goes (omega arith); stops = λ h. at.stops (omega arith) }

  some_rows : (k n : ℕ) (s : Span) → 1 ≤ k → 1 ≤ length (map row_in (lines_from m b k n s))
  some_rows zero n s h = absurd (omega arith)
  some_rows (suc k) n s h = omega arith

  abbrev lines_after : ℕ → ℕ → Span → List Line
  lines_after k n s = lines_from m b k (n + 1) (spread m (live (b.pairs n) s))

  rows_at : (k n : ℕ) (s : Span) → k + n ≡ b.last + 1 → Spans n s → (i : ℕ) → i < length (map row_in (lines_from m b k n s)) → (j : ℕ) → n + i ≡ j → RowAt (map row_in (lines_from m b k n s)) i j
  rows_at zero n s to at i h j e = absurd (omega arith)
  rows_at (suc k) n s to at i h j e =
      by_test (some_in (live (b.pairs n) s)) refl (λ t. rows_at k (n + 1) (spread m (live (b.pairs n) s)) (omega arith) (next_spans n s at t)) i h j e
    where
      by_test :
          (x : Bool) → some_in (live (b.pairs n) s) ≡ x → (some_in (live (b.pairs n) s) ≡ true → (i : ℕ) → i < length (map row_in (lines_after k n s)) → (j : ℕ) → n + 1 + i ≡ j → RowAt (map row_in (lines_after k n s)) i j)
          → (i : ℕ) → i < suc (length (map row_in (cond x (lines_after k n s) []))) → (j : ℕ) → n + i ≡ j
          → RowAt (row_over (b.pairs n) s ∷ map row_in (cond x (lines_after k n s) [])) i j
      by_test true t next zero h j e =
          let here : n ≡ j = omega arith in
          subst (RowAt (row_over (b.pairs n) s ∷ (map row_in (lines_after k n s))) zero) here (record {
            span = s;
            spans = at;
            row = refl;
            goes = λ _. t;
            stops = λ one. absurd (omega (arith, some_rows k (n + 1) (spread m (live (b.pairs n) s)) (omega (arith, more_sizes b law n s at.size.1 t))));
          })
      by_test true t next (suc i) h j e = later (row_over (b.pairs n) s) (map row_in (lines_after k n s)) i j (next t i (omega arith) j (omega arith))
      by_test false t next zero h j e =
          let here : n ≡ j = omega arith in
          subst (RowAt (row_over (b.pairs n) s ∷ []) zero) here (record { span = s; spans = at; row = refl; goes = λ two. absurd (omega arith); stops = λ _. t })
      by_test false t next (suc i) h j e = absurd (omega arith)

module _ {X : Type 0} (m : ℕ) (score : X → ℕ) (kind : Kind m score) (b : Boundary) (law : Lawful b) where
  -- a series of counts that comes to a count is one of items
  reaches : (n d : ℕ) → Comes m (Live m b law) n d → Reaches score b n d
  reaches n d from =
      ∥∥₁_map (lifted m score kind from.counts from.small) (λ ys. (
        ys.0,
        sym (length-map ys.0 score) ∙ ap length ys.1 ∙ from.size,
        ap total ys.1 ∙ from.sum,
        λ k one below.
            subst (λ l. Rules (b.pairs k) (total (take k l)) None) (sym ys.1) (from.lived k one below),
      ))

  comes_by : (n d : ℕ) → ((xs : List X) × (length xs ≡ n) × (total (map score xs) ≡ d) × ((k : ℕ) → 1 ≤ k → k < n → Rules (b.pairs k) (total (take k (map score xs))) None)) → Comes m (Live m b law) n d
  comes_by n d xs = record { counts = map score xs.0; small = scores_small m score kind xs.0; size = length-map xs.0 score ∙ xs.1; sum = xs.2; lived = xs.3 }

  module _ (n : ℕ) (s : Span) (at : Spans m b law n s) where
    reached_in : (d : ℕ) → Reaches score b n d → In s d
    reached_in d r = (∥∥₁_elim r le_prop (λ xs. (at.holds d (comes_by n d xs)).0), ∥∥₁_elim r le_prop (λ xs. (at.holds d (comes_by n d xs)).1))

    greatest : Greatest (λ d. Reaches score b n d × Rules (b.pairs n) d (Some Accept)) (row_over (b.pairs n) s).acceptance
    greatest = by_test (ltb s.low (past (b.pairs n).0)) refl
      where
        by_test : (x : Bool) → ltb s.low (past (b.pairs n).0) ≡ x → Greatest (λ d. Reaches score b n d × Rules (b.pairs n) d (Some Accept)) (cond x (Some (min s.end (past (b.pairs n).0) - 1)) None)
        by_test true t =
            let l = ltb-true _ _ t in
            let some = at.some in
            let a : ℕ = min s.end (past (b.pairs n).0) - 1 in
            ((reaches n a (at.comes a (omega arith, omega arith)), accepted (b.pairs n) a (omega arith)), λ d h. omega (arith, reached_in d h.0, from_accepted (b.pairs n) d h.1))
        by_test false t = λ d h. omega (arith, ltb-false _ _ t, reached_in d h.0, from_accepted (b.pairs n) d h.1)

    smallest : Smallest (λ d. Reaches score b n d × Rules (b.pairs n) d (Some Reject)) (row_over (b.pairs n) s).rejection
    smallest = by_test (ltb (whole (b.pairs n).1) s.end) refl
      where
        by_test : (x : Bool) → ltb (whole (b.pairs n).1) s.end ≡ x → Smallest (λ d. Reaches score b n d × Rules (b.pairs n) d (Some Reject)) (cond x (Some (max s.low (whole (b.pairs n).1))) None)
        by_test true t =
            let l = ltb-true _ _ t in
            let some = at.some in
            let bound = pair_bounds b law n at.size.0 at.size.1 in
            let r : ℕ = max s.low (whole (b.pairs n).1) in
            ((reaches n r (at.comes r (omega arith, omega arith)), rejected (b.pairs n) r (omega arith) (omega arith)), λ d h. omega (arith, reached_in d h.0, from_rejected (b.pairs n) d h.1))
        by_test false t = λ d h. omega (arith, ltb-false _ _ t, reached_in d h.0, from_rejected (b.pairs n) d h.1)

    shows : Shows score b n (row_over (b.pairs n) s)
    shows = record { accepts = greatest; rejects = smallest }

  pub sheet_drawn : SheetOf score b (sheet m b)
  sheet_drawn = record {
    some = some;
    within = omega (arith, length-map (lines m b) row_in, lines_few m b b.last 1 (first m));
    each = λ n l. let r = at n l (n + 1) (omega arith) in subst (Shows score b (n + 1)) (sym r.row) (shows (n + 1) r.span r.spans);
    goes_on = λ n one l.
        let r = at (n - 1) (omega arith) n (omega arith) in
        let d : ℕ = (live (b.pairs n) r.span).low in
        let here = in_live (b.pairs n) r.span d (omega arith, ltb-true _ _ (r.goes (omega arith))) in
        ∣ (d, reaches n d (r.spans.comes d here.0), here.1) ∣₁;
    ends = λ d reach live.
        let r = at (length (sheet m b) - 1) (omega (arith, some)) (length (sheet m b)) (omega (arith, some)) in
        both_ways _ (r.stops (omega (arith, some))) (some_live (b.pairs (length (sheet m b))) r.span d (reached_in (length (sheet m b)) r.span r.spans d reach) live);
  }
    where
      some : 1 ≤ length (sheet m b)
      some = some_rows m b law b.last 1 (first m) law.some

      at : (i : ℕ) → i < length (sheet m b) → (n : ℕ) → 1 + i ≡ n → RowAt m b law (sheet m b) i n
      at = rows_at m b law b.last 1 (first m) refl (first_spans m b law)
