-- The rows that a table plan may have. Assumes nothing.
use Rattle.std.specs.Prelude.{◌≡◌, ℕ, ◌<◌, Bool, true, ◌&&◌, List, length, Some, None, Option, nat_le, slice_index_or}
use Rattle.plan.specs.Limits.{max_rejection}
use Rattle.sheet.specs.Series.{blank}
use Rattle.sheet.specs.Tables.{apart, small_if_any}
use Rattle.sheet.specs.declared.rows.Row.{Row}

-- A rejection number is missing or at most 254.
abbrev pub modest_if_any : Option ℕ → Bool
modest_if_any None = true
modest_if_any (Some r) = nat_le r max_rejection

-- A sound row: the rejection number is the greater where both stand, and neither is too great.
abbrev pub sound : Row → Bool
sound r = apart r.acceptance r.rejection && (small_if_any r.acceptance && modest_if_any r.rejection)

abbrev pub Sound : Row → Type 0
Sound r = sound r ≡ true

abbrev pub AllSound : List Row → Type 0
AllSound rows = (i : ℕ) → i < length rows → Sound (slice_index_or rows i blank)
