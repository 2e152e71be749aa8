-- Lawful rows are read as a lawful plan whose sheet they are. Assumes nothing.
use Rattle.std.proofs.Common.{◌≡◌, ℕ, zero, suc, ◌+◌, ◌-◌, ◌<◌, ◌≤◌, Bool, true, false, cond, List, [], ◌∷◌, map, length, get_or, drop, ℤ, pos, negsuc, ◌+ℤ◌, ◌≤ℤ◌, Some, None, refl, ap, ◌∙◌, arith}
use Rattle.std.proofs.lemmas.List.{drop_more, length-drop}
use Rattle.std.proofs.lemmas.Bool.{cond-true, cond-false, lt-ltb, le-ltb}
use Rattle.plan.specs.Boundaries.{Boundary, Lawful}
use Rattle.sheet.proofs.Lawfulness.{Low, Goes_on, goes_on, ends_at, closing_pair}
use Rattle.sheet.proofs.Soundness.{table_lawful}
use Rattle.sheet.specs.Series.{blank}
use Rattle.sheet.specs.Sheets.{row_over, row_in, lines_from, sheet}
use Rattle.sheet.specs.Soundness.{Sound, AllSound}
use Rattle.sheet.specs.Spans.{live, some_in, spread, first}
use Rattle.sheet.specs.Tables.{live_of, lawful_row, is_nil, first_unlawful, front, final, pair_of, closing_of, table_meaning, loaded}
use Rattle.sheet.specs.declared.rows.Row.{Row}
use Rattle.sheet.specs.declared.rows.Span.{Span}

front_length : (r : Row) (rs : List Row) → length (front (r ∷ rs)) ≡ length rs
front_length r [] = refl
front_length r (q ∷ rs) = ap suc (front_length q rs)

sound_more : (r : Row) (rs : List Row) → Sound r → AllSound rs → AllSound (r ∷ rs)
sound_more r rs h all zero l = h
sound_more r rs h all (suc i) l = all i (omega arith)

-- the pairs of a table, by what is left of its rows
at_row : (fs rest : List Row) (r : Row) (j : ℕ) (c : ℤ) → drop j fs ≡ r ∷ rest → ((table_meaning fs c).pairs (j + 1) ≡ pair_of r) × (drop (j + 1) fs ≡ rest)
at_row fs rest r j c e =
    let within : j < length fs = omega (arith, length-drop j fs, ap length e) in
    let more = drop_more fs j blank within in
    let here : get_or fs j blank ≡ r = cc in
    let index : j + 1 - 1 ≡ j = omega arith in
    (cond-true _ _ _ (lt-ltb (j + 1) (length fs + 1) (omega arith)) ∙ ap (λ i. pair_of (get_or fs i blank)) index ∙ ap pair_of here, cc)

at_end : (fs : List Row) (j : ℕ) (c : ℤ) → drop j fs ≡ [] → (table_meaning fs c).pairs (j + 1) ≡ (c, c +ℤ pos 1)
at_end fs j c e = cond-false _ _ _ (le-ltb (j + 1) (length fs + 1) (omega (arith, length-drop j fs, ap length e)))

module _ (m : ℕ) where
  -- the rows of a plan from a size on: there are more if a count is live
  pub rows_at : (b : Boundary) (k n : ℕ) (s : Span) (p : ℤ × ℤ) (x : Bool) → b.pairs n ≡ p → some_in (live p s) ≡ x → map row_in (lines_from m b (suc k) n s) ≡ row_over p s ∷ map row_in (cond x (lines_from m b k (n + 1) (spread m (live p s))) [])
  rows_at b k n s p x e t =
      ap (λ q. row_over q s ∷ map row_in (cond (some_in (live q s)) (lines_from m b k (n + 1) (spread m (live q s))) [])) e
      ∙ ap (λ y. row_over p s ∷ map row_in (cond y (lines_from m b k (n + 1) (spread m (live p s))) [])) t

  -- the first row is lawful, and so are the others
  first_lawful : (i : ℕ) (s : Span) (r : Row) (rs : List Row) → first_unlawful m i s (r ∷ rs) ≡ None → (lawful_row (is_nil rs) r s ≡ true) × (first_unlawful m (i + 1) (spread m (live_of r s)) rs ≡ None)
  first_lawful i s r rs e = by_test (lawful_row (is_nil rs) r s) e
    where
      by_test : (t : Bool) → cond t (first_unlawful m (i + 1) (spread m (live_of r s)) rs) (Some i) ≡ None → (t ≡ true) × (first_unlawful m (i + 1) (spread m (live_of r s)) rs ≡ None)
      by_test true e = (refl, e)
      by_test false e = cc

  next_low : (r : Row) (s : Span) → Goes_on r s → Low (spread m (live_of r s))
  next_low r s g = record { some = omega arith; low = omega arith }

  -- what lawful rows come to: a sound front, a closing number in bounds, and the rows of their table from an index on
  record Read (j : ℕ) (s : Span) (r : Row) (rs : List Row) : Type 0 where
    front_sound : AllSound (front (r ∷ rs))
    floor : negsuc 0 ≤ℤ closing_of (final (r ∷ rs))
    roof : closing_of (final (r ∷ rs)) ≤ℤ pos 253
    rows : (fs : List Row) → drop j fs ≡ front (r ∷ rs) → map row_in (lines_from m (table_meaning fs (closing_of (final (r ∷ rs)))) (length (r ∷ rs)) (j + 1) s) ≡ r ∷ rs

  read : (i j : ℕ) (s : Span) (r : Row) (rs : List Row) → Low s → first_unlawful m i s (r ∷ rs) ≡ None → Read j s r rs
  read i j s r [] low e =
      let g = ends_at s low r (first_lawful i s r [] e).0 in
      record {
        front_sound = λ k h. absurd (omega arith);
        floor = g.floor;
        roof = g.roof;
        rows = λ fs d. rows_at (table_meaning fs (closing_of r)) 0 (j + 1) s (closing_pair r) false (at_end fs j (closing_of r) d) g.none ∙ ap (λ x. x ∷ []) g.same;
      }
  read i j s r (q ∷ rs) low e =
      let h = first_lawful i s r (q ∷ rs) e in
      let g = goes_on s low r h.0 in
      let rest = read (i + 1) (j + 1) (spread m (live_of r s)) q rs (next_low r s g) h.1 in
      record {
        front_sound = sound_more r (front (q ∷ rs)) g.sound rest.front_sound;
        floor = rest.floor;
        roof = rest.roof;
        rows = λ fs d.
            let here = at_row fs (front (q ∷ rs)) r j (closing_of (final (q ∷ rs))) d in
            let b = table_meaning fs (closing_of (final (q ∷ rs))) in
            let going : some_in (live (pair_of r) s) ≡ true = ap some_in g.lives ∙ lt-ltb _ _ g.some in
            rows_at b (suc (length rs)) (j + 1) s (pair_of r) true here.0 going
            ∙ ap (λ x. x ∷ map row_in (lines_from m b (suc (length rs)) (j + 1 + 1) (spread m (live (pair_of r) s)))) g.same
            ∙ ap (λ t. r ∷ map row_in (lines_from m b (suc (length rs)) (j + 1 + 1) (spread m t))) g.lives
            ∙ ap (λ l. r ∷ l) (rest.rows fs here.1);
      }

  pub first_low : Low (first m)
  first_low = record { some = omega arith; low = omega arith }

pub front_sound : (m : ℕ) (rows : List Row) → 1 ≤ length rows → length rows ≤ 4096 → first_unlawful m 1 (first m) rows ≡ None → (length (front rows) ≤ 4095) × AllSound (front rows)
front_sound m [] some few e = absurd (omega arith)
front_sound m (r ∷ rs) some few e = (omega (arith, front_length r rs), (read m 1 0 (first m) r rs (first_low m) e).front_sound)

pub closing_bounds : (m : ℕ) (rows : List Row) → 1 ≤ length rows → first_unlawful m 1 (first m) rows ≡ None → (negsuc 0 ≤ℤ closing_of (final rows)) × (closing_of (final rows) ≤ℤ pos 253)
closing_bounds m [] some e = absurd (omega arith)
closing_bounds m (r ∷ rs) some e = let h = read m 1 0 (first m) r rs (first_low m) e in (h.floor, h.roof)

pub loaded_lawful : (m : ℕ) (rows : List Row) → 1 ≤ length rows → length rows ≤ 4096 → first_unlawful m 1 (first m) rows ≡ None → Lawful (loaded rows)
loaded_lawful m rows some few e =
    let f = front_sound m rows some few e in
    let c = closing_bounds m rows some e in
    table_lawful (front rows) (closing_of (final rows)) f.0 f.1 c.0 c.1

pub loaded_sheet : (m : ℕ) (rows : List Row) → 1 ≤ length rows → length rows ≤ 4096 → first_unlawful m 1 (first m) rows ≡ None → sheet m (loaded rows) ≡ rows
loaded_sheet m [] some few e = absurd (omega arith)
loaded_sheet m (r ∷ rs) some few e =
    let size : length (front (r ∷ rs)) + 1 ≡ suc (length rs) = omega (arith, front_length r rs) in
    ap (λ k. map row_in (lines_from m (loaded (r ∷ rs)) k 1 (first m))) size ∙ (read m 1 0 (first m) r rs (first_low m) e).rows (front (r ∷ rs)) refl
