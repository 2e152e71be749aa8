-- The sheet of a plan: its rows and points. Assumes nothing.
use Rattle.std.specs.Prelude.{ℕ, zero, suc, ◌+◌, ◌-◌, min, max, cond, List, [], ◌∷◌, map, ℤ, Some, None, nat_lt}
use Rattle.plan.specs.Boundaries.{Boundary}
use Rattle.sheet.specs.Spans.{past, whole, live, some_in, width, first, spread}
use Rattle.sheet.specs.declared.rows.Span.{Span}
use Rattle.sheet.specs.declared.rows.Row.{Row}

-- The row of a pair over the counts reached: the greatest of them that is accepted, and the smallest that is rejected.
abbrev pub row_over : ℤ × ℤ → Span → Row
row_over p s = record {
  acceptance = cond (nat_lt s.low (past p.0)) (Some (min s.end (past p.0) - 1)) None;
  rejection = cond (nat_lt (whole p.1) s.end) (Some (max s.low (whole p.1))) None;
}

-- A line of the sheet: the counts reached at a size, and their row.
abbrev pub Line : Type 0
Line = Span × Row

-- At most k lines, from size n on, where the counts s are reached. The last one has no live count.
abbrev pub lines_from : ℕ → Boundary → ℕ → ℕ → Span → List Line
lines_from m b zero n s = []
lines_from m b (suc k) n s =
    (s, row_over (b.pairs n) s)
    ∷ cond (some_in (live (b.pairs n) s)) (lines_from m b k (n + 1) (spread m (live (b.pairs n) s))) []

-- The sheet of a plan, for items that give 0 to m: its lines, its rows, and its points, the counts reached in all rows.
abbrev pub lines : ℕ → Boundary → List Line
lines m b = lines_from m b b.last 1 (first m)

abbrev pub row_in : Line → Row
row_in l = l.1

abbrev pub sheet : ℕ → Boundary → List Row
sheet m b = map row_in (lines m b)

abbrev pub points_in : List Line → ℕ
points_in [] = 0
points_in (l ∷ ls) = width l.0 + points_in ls

abbrev pub points : ℕ → Boundary → ℕ
points m b = points_in (lines m b)
