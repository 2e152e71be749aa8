-- What is left of a walk. Assumes nothing.
use Rattle.std.specs.Prelude.{ℕ, ◌+◌, ◌-◌, List, [], Some, None, Option}
use Rattle.plan.specs.Boundaries.{Boundary}
use Rattle.sheet.specs.Sheets.{Line, lines_from}
use Rattle.sheet.specs.declared.rows.Span.{Span}
use Rattle.sheet.specs.declared.walks.Walk.{Walk}

-- The lines from size n on, by the counts reached there, if the walk has not ended; and those that a walk has left.
abbrev pub left_at : Boundary → ℕ → ℕ → Option Span → List Line
left_at b m n None = []
left_at b m n (Some s) = lines_from m b (b.last + 1 - n) n s

abbrev pub left : {K P : Type 0} → (P → Boundary) → ℕ → Walk K P → List Line
left meaning m w = left_at (meaning w.plan.now) m w.size w.reached
