-- Bytes read as rows, two at a time. Assumes nothing.
use Rattle.std.proofs.Common.{◌≡◌, ℕ, zero, suc, ◌+◌, ◌/◌, ◌<◌, ◌≤◌, true, false, cond, eqb, List, [], ◌∷◌, ◌++◌, map, length, get_or, drop, Some, None, Option, sym, refl, ap, ◌∙◌, add-one, drop-cons, length-drop, arith}
use Rattle.std.proofs.lemmas.Bool.{cond-true, cond-false}
use Rattle.std.proofs.lemmas.Bool.Decides.{nat_tests}
use Rattle.std.specs.Simd.{first_chunks}
use Rattle.sheet.specs.Loads.{row_of, row_from, rows_of}
use Rattle.sheet.specs.Spans.{spread}
use Rattle.sheet.specs.Tables.{final, first_unlawful, front, is_nil, lawful_row, live_of, up_to}
use Rattle.sheet.specs.declared.rows.Row.{Row}
use Rattle.sheet.specs.declared.rows.Span.{Span}

-- the rows of bytes in pairs
in_pairs : (k : ℕ) (bs : List ℕ) → length bs / 2 ≡ k → map row_of (first_chunks 2 k bs) ≡ rows_of bs
in_pairs zero [] e = refl
in_pairs zero (x ∷ []) e = refl
in_pairs zero (x ∷ y ∷ bs) e = absurd (omega arith)
in_pairs (suc k) [] e = absurd (omega arith)
in_pairs (suc k) (x ∷ []) e = absurd (omega arith)
in_pairs (suc k) (x ∷ y ∷ bs) e = ap (λ l. row_from x y ∷ l) (in_pairs k bs (omega arith))

pub pairs_rows : (bs : List ℕ) → map row_of (first_chunks 2 (length bs / 2) bs) ≡ rows_of bs
pairs_rows bs = in_pairs (length bs / 2) bs refl

-- no more counts are live than were reached
pub live_low : (r : Row) (s : Span) → (live_of r s).end ≤ s.end
live_low r s = by_number r.rejection
  where
    by_number : (n : Option ℕ) → up_to s.end n ≤ s.end
    by_number None = omega arith
    by_number (Some n) = omega arith

-- there is no row exactly where no pair of bytes is left
none_after : (ps : List (List ℕ)) (n k : ℕ) → n + length ps ≡ k → is_nil (map row_of ps) ≡ eqb n k
none_after [] n k e = grind (arith, nat_tests)
none_after (p ∷ ps) n k e = grind (arith, nat_tests)

-- one turn: the row r stands at place i
module _ (m i : ℕ) (s : Span) (ps : List (List ℕ)) (d : List ℕ) (r : Row) (h : i < length ps) (is : r ≡ row_of (get_or ps i d)) where
  unfolded : first_unlawful m (i + 1) s (map row_of (drop i ps)) ≡ cond (lawful_row (eqb (i + 1) (length ps)) r s) (first_unlawful m (i + 1 + 1) (spread m (live_of r s)) (map row_of (drop (i + 1) ps))) (Some (i + 1))
  unfolded =
      ap (λ l. first_unlawful m (i + 1) s (map row_of l)) (drop-cons ps i d h ∙ ap (λ n. get_or ps i d ∷ drop n ps) (sym (add-one i)))
      ∙ ap (λ x. first_unlawful m (i + 1) s (x ∷ map row_of (drop (i + 1) ps))) (sym is)
      ∙ ap (λ t. cond (lawful_row t r s) (first_unlawful m (i + 1 + 1) (spread m (live_of r s)) (map row_of (drop (i + 1) ps))) (Some (i + 1))) (none_after (drop (i + 1) ps) (i + 1) (length ps) (omega (arith, length-drop (i + 1) ps)))

  pub found : lawful_row (eqb (i + 1) (length ps)) r s ≡ false → Some (i + 1) ≡ first_unlawful m (i + 1) s (map row_of (drop i ps))
  found l = sym (unfolded ∙ cond-false _ _ _ l)

  pub passed : lawful_row (eqb (i + 1) (length ps)) r s ≡ true → first_unlawful m (i + 1 + 1) (spread m (live_of r s)) (map row_of (drop (i + 1) ps)) ≡ first_unlawful m (i + 1) s (map row_of (drop i ps))
  passed l = sym (unfolded ∙ cond-true _ _ _ l)

-- all rows but the last, and the last, of rows that end with it
pub front_push : (rows : List Row) (r : Row) → (front (rows ++ (r ∷ [])) ≡ rows) × (final (rows ++ (r ∷ [])) ≡ r)
front_push [] r = (refl, refl)
front_push (p ∷ []) r = (refl, refl)
front_push (p ∷ q ∷ rows) r = let h = front_push (q ∷ rows) r in (ap (λ l. p ∷ l) h.0, h.1)
