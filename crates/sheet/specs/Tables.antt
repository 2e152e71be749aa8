-- Rows that are read as a plan: which rows are lawful, and what the plan means. Assumes nothing.
use Rattle.std.specs.Prelude.{ℕ, zero, suc, ◌+◌, ◌-◌, min, max, Bool, true, false, cond, not, ◌&&◌, ◌||◌, List, [], ◌∷◌, length, ℤ, pos, negsuc, ◌+ℤ◌, Some, None, Option, nat_le, nat_lt, slice_index_or}
use Rattle.plan.specs.Boundaries.{Boundary}
use Rattle.plan.specs.Limits.{max_acceptance, max_rejection}
use Rattle.sheet.specs.Series.{blank}
use Rattle.sheet.specs.Spans.{span, some_in, spread}
use Rattle.sheet.specs.declared.rows.Row.{Row}
use Rattle.sheet.specs.declared.rows.Span.{Span}

-- The live counts of a row over the counts reached: those above the first number and below the second, where they
-- stand; a number that is missing bounds nothing.
abbrev pub above : Option ℕ → ℕ
above None = 0
above (Some a) = a + 1

abbrev pub up_to : ℕ → Option ℕ → ℕ
up_to end None = end
up_to end (Some r) = min end r

abbrev pub live_of : Row → Span → Span
live_of r s = span (max s.low (above r.acceptance)) (up_to s.end r.rejection)

-- A number is missing or a reached count; an acceptance number is at most 253; the rejection number is the greater
-- where both stand; no live count exceeds 253.
abbrev pub reached_if_any : Span → Option ℕ → Bool
reached_if_any s None = true
reached_if_any s (Some n) = nat_le s.low n && nat_lt n s.end

abbrev pub small_if_any : Option ℕ → Bool
small_if_any None = true
small_if_any (Some a) = nat_le a max_acceptance

abbrev pub apart : Option ℕ → Option ℕ → Bool
apart None r = true
apart (Some a) None = true
apart (Some a) (Some r) = nat_lt a r

abbrev pub few_live : Span → Bool
few_live s = not (some_in s) || nat_le s.end (max_acceptance + 1)

-- A lawful row, the last one or not: only the last has no live count.
abbrev pub lawful_row : Bool → Row → Span → Bool
lawful_row last r s =
    reached_if_any s r.acceptance && (reached_if_any s r.rejection && (small_if_any r.acceptance && (apart r.acceptance r.rejection
    && (few_live (live_of r s) && cond last (not (some_in (live_of r s))) (some_in (live_of r s))))))

abbrev pub is_nil : List Row → Bool
is_nil [] = true
is_nil (r ∷ rs) = false

-- The number, counted on from i, of the first row that is not lawful, where the counts s are reached at the first.
abbrev pub first_unlawful : ℕ → ℕ → Span → List Row → Option ℕ
first_unlawful m i s [] = None
first_unlawful m i s (r ∷ rs) = cond (lawful_row (is_nil rs) r s) (first_unlawful m (i + 1) (spread m (live_of r s)) rs) (Some i)

-- All rows but the last, and the last.
abbrev pub front : List Row → List Row
front [] = []
front (r ∷ []) = []
front (r ∷ q ∷ rs) = r ∷ front (q ∷ rs)

abbrev pub final : List Row → Row
final [] = blank
final (r ∷ []) = r
final (r ∷ q ∷ rs) = final (q ∷ rs)

-- The pair of a row that is not the last: a missing number stands for -1 or 254.
abbrev pub accepts_to : Option ℕ → ℤ
accepts_to None = negsuc 0
accepts_to (Some a) = pos a

abbrev pub rejects_at : Option ℕ → ℤ
rejects_at None = pos max_rejection
rejects_at (Some r) = pos r

abbrev pub pair_of : Row → ℤ × ℤ
pair_of r = (accepts_to r.acceptance, rejects_at r.rejection)

-- The acceptance number of the last row, where the rejection number is one more: if it is missing it follows from that.
abbrev pub one_less : Option ℕ → ℤ
one_less None = negsuc 0
one_less (Some zero) = negsuc 0
one_less (Some (suc r)) = pos r

abbrev pub closing_by : Option ℕ → Option ℕ → ℤ
closing_by None r = one_less r
closing_by (Some a) r = pos a

abbrev pub closing_of : Row → ℤ
closing_of r = closing_by r.acceptance r.rejection

-- A table plan: its rows but the last, and the acceptance number of the last.
abbrev pub table_meaning : List Row → ℤ → Boundary
table_meaning rows closing = record {
  last = length rows + 1;
  pairs = λ n. cond (nat_lt n (length rows + 1)) (pair_of (slice_index_or rows (n - 1) blank)) (closing, closing +ℤ pos 1);
}

-- The plan that rows are read as.
abbrev pub loaded : List Row → Boundary
loaded rows = table_meaning (front rows) (closing_of (final rows))
