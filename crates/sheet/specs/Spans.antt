-- Spans of counts: which of them a pair leaves live, and what one more item reaches. Assumes nothing.
use Rattle.std.specs.Prelude.{ℕ, ◌+◌, ◌-◌, ◌<◌, ◌≤◌, min, max, Bool, cond, ℤ, pos, negsuc, Some, None, Option, nat_lt}
use Rattle.sheet.specs.declared.rows.Span.{Span}

abbrev pub span : ℕ → ℕ → Span
span low end = record { low = low; end = end }

-- A count of a span.
abbrev pub In : Span → ℕ → Type 0
In s d = (s.low ≤ d) × (d < s.end)

-- A pair accepts the counts up to its first number, those below `past` of it, and rejects those from its second
-- number, `whole` of it, on.
abbrev pub past : ℤ → ℕ
past (pos n) = n + 1
past (negsuc n) = 0

abbrev pub whole : ℤ → ℕ
whole (pos n) = n
whole (negsuc n) = 0

-- The counts of a span that a pair leaves live, and whether there is one.
abbrev pub live : ℤ × ℤ → Span → Span
live p s = span (max s.low (past p.0)) (min s.end (whole p.1))

abbrev pub some_in : Span → Bool
some_in s = nat_lt s.low s.end

-- How many counts there are.
abbrev pub width : Span → ℕ
width s = s.end - s.low

-- The counts reached at size 1, where items give 0 to m; and those reached by one more item.
abbrev pub first : ℕ → Span
first m = span 0 (m + 1)

abbrev pub spread : ℕ → Span → Span
spread m s = span s.low (s.end + m)

-- The counts reached at the next size, if a pair leaves a count live.
abbrev pub next_span : ℕ → ℤ × ℤ → Span → Option Span
next_span m p s = cond (some_in (live p s)) (Some (spread m (live p s))) None
