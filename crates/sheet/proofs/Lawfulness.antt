-- A lawful row is the row of its pair. Assumes nothing.
use Rattle.std.proofs.Common.{◌≡◌, ℕ, zero, suc, ◌+◌, ◌<◌, ◌≤◌, max, true, false, ℤ, pos, negsuc, ◌+ℤ◌, ◌≤ℤ◌, Some, None, Option, refl, ap, ◌∙◌, arith}
use Rattle.std.proofs.lemmas.Int.{ints}
use Rattle.std.proofs.lemmas.Bool.Decides.{nat_tests}
use Rattle.sheet.specs.Sheets.{row_over}
use Rattle.sheet.specs.Soundness.{Sound}
use Rattle.sheet.specs.Spans.{span, live, some_in}
use Rattle.sheet.specs.Tables.{live_of, lawful_row, pair_of, closing_of}
use Rattle.sheet.specs.declared.rows.Row.{Row}
use Rattle.sheet.specs.declared.rows.Span.{Span}

-- the counts of a span are some, and not all too great
pub record Low (s : Span) : Type 0 where
  pub some : s.low < s.end
  pub low : s.low ≤ 253

abbrev row : Option ℕ → Option ℕ → Row
row a r = record { acceptance = a; rejection = r }

row_is : (p : ℤ × ℤ) (s : Span) (a r : Option ℕ) → (row_over p s).acceptance ≡ a → (row_over p s).rejection ≡ r → row_over p s ≡ row a r
row_is p s a r h k = ap (λ x. row x (row_over p s).rejection) h ∙ ap (row a) k

-- a lawful row that is not the last
pub record Goes_on (r : Row) (s : Span) : Type 0 where
  pub same : row_over (pair_of r) s ≡ r
  pub lives : live (pair_of r) s ≡ live_of r s
  pub some : (live_of r s).low < (live_of r s).end
  pub few : (live_of r s).end ≤ 254
  pub sound : Sound r

module _ (s : Span) (low : Low s) where
  goes : (a r : Option ℕ) → lawful_row false (row a r) s ≡ true → Goes_on (row a r) s
  goes None None l = record {
    same = row_is (pair_of (row None None)) s None None (grind (arith, nat_tests)) (grind (arith, nat_tests));
    lives = ap (span (max s.low 0)) (grind (arith, nat_tests));
    some = grind (arith, nat_tests);
    few = grind (arith, nat_tests);
    sound = refl;
  }
  goes None (Some r) l = record {
    same = row_is (pair_of (row None (Some r))) s None (Some r) (grind (arith, nat_tests)) (grind (arith, nat_tests));
    lives = refl;
    some = grind (arith, nat_tests);
    few = grind (arith, nat_tests);
    sound = grind (arith, nat_tests);
  }
  goes (Some a) None l = record {
    same = row_is (pair_of (row (Some a) None)) s (Some a) None (grind (arith, nat_tests)) (grind (arith, nat_tests));
    lives = ap (span (max s.low (a + 1))) (grind (arith, nat_tests));
    some = grind (arith, nat_tests);
    few = grind (arith, nat_tests);
    sound = grind (arith, nat_tests);
  }
  goes (Some a) (Some r) l = record {
    same = row_is (pair_of (row (Some a) (Some r))) s (Some a) (Some r) (grind (arith, nat_tests)) (grind (arith, nat_tests));
    lives = refl;
    some = grind (arith, nat_tests);
    few = grind (arith, nat_tests);
    sound = grind (arith, nat_tests);
  }

  pub goes_on : (r : Row) → lawful_row false r s ≡ true → Goes_on r s
  goes_on r l = goes r.acceptance r.rejection l

-- the pair of the last row
abbrev pub closing_pair : Row → ℤ × ℤ
closing_pair r = (closing_of r, closing_of r +ℤ pos 1)

-- a lawful row that is the last
pub record EndsAt (r : Row) (s : Span) : Type 0 where
  pub same : row_over (closing_pair r) s ≡ r
  pub none : some_in (live (closing_pair r) s) ≡ false
  pub floor : negsuc 0 ≤ℤ closing_of r
  pub roof : closing_of r ≤ℤ pos 253

module _ (s : Span) (low : Low s) where
  ends : (a r : Option ℕ) → lawful_row true (row a r) s ≡ true → EndsAt (row a r) s
  ends None None l = let z : ◌≡◌ {A = ℕ} 0 1 = grind (arith, nat_tests) in absurd (omega arith)
  ends None (Some zero) l = record {
    same = row_is (closing_pair (row None (Some zero))) s None (Some zero) (grind (arith, nat_tests)) (grind (arith, nat_tests));
    none = grind (arith, nat_tests);
    floor = omega (arith, ints);
    roof = omega (arith, ints);
  }
  ends None (Some (suc r)) l = record {
    same = row_is (closing_pair (row None (Some (suc r)))) s None (Some (suc r)) (grind (arith, nat_tests)) (grind (arith, nat_tests));
    none = grind (arith, nat_tests);
    floor = omega (arith, ints);
    roof = let h : r ≤ 253 = grind (arith, nat_tests) in omega (arith, ints);
  }
  ends (Some a) None l = record {
    same = row_is (closing_pair (row (Some a) None)) s (Some a) None (grind (arith, nat_tests)) (grind (arith, nat_tests));
    none = grind (arith, nat_tests);
    floor = omega (arith, ints);
    roof = let h : a ≤ 253 = grind (arith, nat_tests) in omega (arith, ints);
  }
  ends (Some a) (Some r) l = record {
    same = row_is (closing_pair (row (Some a) (Some r))) s (Some a) (Some r) (grind (arith, nat_tests)) (grind (arith, nat_tests));
    none = grind (arith, nat_tests);
    floor = omega (arith, ints);
    roof = let h : a ≤ 253 = grind (arith, nat_tests) in omega (arith, ints);
  }

  pub ends_at : (r : Row) → lawful_row true r s ≡ true → EndsAt r s
  ends_at r l = ends r.acceptance r.rejection l
