-- The steps of a walk. Assumes nothing.
use Rattle.std.proofs.Common.{◌≡◌, ℕ, zero, suc, ◌+◌, ◌-◌, ◌<◌, ◌≤◌, Bool, true, false, cond, [], ◌∷◌, length, ℤ, List, Some, None, Option, sym, refl, ap, ◌∙◌, subst, arith}
use Rattle.std.proofs.lemmas.Bool.Decides.{nat_tests}
use Rattle.plan.specs.Boundaries.{Boundary, Lawful, asked}
use Rattle.sheet.proofs.Pairs.{asked_some}
use Rattle.sheet.specs.Lefts.{left_at}
use Rattle.sheet.specs.Sheets.{Line, lines_from, lines, row_over}
use Rattle.sheet.specs.Spans.{live, some_in, next_span, spread, first}
use Rattle.sheet.specs.Walks.{Small}
use Rattle.sheet.specs.declared.rows.Row.{Row}
use Rattle.sheet.specs.declared.rows.Span.{Span}

-- at a size that a plan has there is a line
pub one_left : (b : Boundary) (m n : ℕ) (s : Span) (p : ℤ × ℤ) → asked b n ≡ Some p → left_at b m n (Some s) ≡ (s, row_over p s) ∷ left_at b m (n + 1) (next_span m p s)
one_left b m n s p answer =
    let at = asked_some b n p answer in
    let more : b.last + 1 - n ≡ suc (b.last - n) = omega arith in
    let same : b.last - n ≡ b.last + 1 - (n + 1) = omega arith in
    ap (λ k. lines_from m b k n s) more
    ∙ ap (λ l. (s, row_over (b.pairs n) s) ∷ l) (by_test (some_in (live (b.pairs n) s)) _ (ap (λ k. lines_from m b k (n + 1) (spread m (live (b.pairs n) s))) same))
    ∙ ap (λ q. (s, row_over q s) ∷ left_at b m (n + 1) (next_span m q s)) (sym at.2)
  where
    by_test : (t : Bool) (k : ℕ) → lines_from m b k (n + 1) (spread m (live (b.pairs n) s)) ≡ left_at b m (n + 1) (Some (spread m (live (b.pairs n) s))) → cond t (lines_from m b k (n + 1) (spread m (live (b.pairs n) s))) [] ≡ left_at b m (n + 1) (cond t (Some (spread m (live (b.pairs n) s))) None)
    by_test true k e = e
    by_test false k e = refl

-- so a step takes the first
pub step_left : (b : Boundary) (m n : ℕ) (o o' : Option Span) (s : Span) (p : ℤ × ℤ) (r : Row) → o ≡ Some s → asked b n ≡ Some p → o' ≡ next_span m p s → r ≡ row_over p s → left_at b m n o ≡ (s, r) ∷ left_at b m (n + 1) o'
step_left b m n o o' s p r at answer next row = rw (at, next, row) (one_left b m n s p answer)

-- the counts reached in a line that is left are small
pub first_small : (b : Boundary) (m n : ℕ) (o : Option Span) (l : Line) (ls : List Line) → Small o → left_at b m n o ≡ l ∷ ls → (l.0.low < l.0.end) × (l.0.end ≤ 269)
first_small b m n None l ls small e = cc
first_small b m n (Some s) l ls small e = by_count (b.last + 1 - n) e
  where
    by_count : (k : ℕ) → lines_from m b k n s ≡ l ∷ ls → (l.0.low < l.0.end) × (l.0.end ≤ 269)
    by_count zero e = cc
    by_count (suc k) e = let same : s ≡ l.0 = cc in let h = small s refl in subst (λ u. (u.low < u.end) × (u.end ≤ 269)) same (h.0, h.2)

-- there are at most as many lines as sizes
pub lines_few : (m : ℕ) (b : Boundary) (k n : ℕ) (s : Span) → length (lines_from m b k n s) ≤ k
lines_few m b zero n s = omega arith
lines_few m b (suc k) n s = let rest = lines_few m b k (n + 1) (spread m (live (b.pairs n) s)) in grind (arith, nat_tests)

pub sheet_few : (m : ℕ) (b : Boundary) → Lawful b → length (lines m b) ≤ 4096
sheet_few m b law = omega (arith, lines_few m b b.last 1 (first m), law.few)
