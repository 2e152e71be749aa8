-- The bounds of a walk. Assumes nothing.
use Rattle.std.specs.Prelude.{◌≡◌, ◌+◌, ◌<◌, ◌≤◌, Some, Option}
use Rattle.plan.specs.Limits.{max_acceptance, max_rejection, max_count}
use Rattle.sheet.specs.declared.rows.Span.{Span}

-- There is a count reached, and all lie above a live count by at most an item.
abbrev pub Small : Option Span → Type 0
Small o = (s : Span) → o ≡ Some s → (s.low < s.end) × (s.low ≤ max_acceptance) × (s.end ≤ max_rejection + max_count)
