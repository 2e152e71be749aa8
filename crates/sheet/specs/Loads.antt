-- Bytes that are read as a sheet: what refuses them, and the table they leave. Assumes nothing.
use Rattle.std.specs.Prelude.{◌≡◌, ℕ, ◌+◌, ◌*◌, Bool, cond, not, ◌&&◌, List, [], ◌∷◌, length, drop, Some, None, Ok, Err, vec_items, Option, Result, ◌==◌, nat_le, nat_lt, slice_index}
use Rattle.plan.specs.Boundaries.{Boundary, Lawful}
use Rattle.plan.specs.Limits.{max_size}
use Rattle.sheet.specs.Bytes.{sheet_bytes}
use Rattle.sheet.specs.Spans.{first}
use Rattle.sheet.specs.Tables.{closing_of, final, first_unlawful, front, table_meaning}
use Rattle.sheet.specs.declared.faults.LoadFault.{LoadFault}
use Rattle.sheet.specs.declared.faults.LoadFault.TheVariants.{BadSheet, NoMemory}
use Rattle.sheet.specs.declared.faults.SheetFault.{SheetFault}
use Rattle.sheet.specs.declared.faults.SheetFault.TheVariants.{NoHeader, OtherMark, OtherVersion, OtherKind, WrongLength, UnlawfulRow}
use Rattle.sheet.specs.declared.rows.Row.{Row}
use Rattle.sheet.specs.declared.tables.Table.{Table}

-- The number that a byte of a row stands for: 255 for none.
abbrev pub number_of : ℕ → Option ℕ
number_of n = cond (n == 255) None (Some n)

-- The row of two bytes, given one by one and as a list; and the rows that bytes are read as.
abbrev pub row_from : ℕ → ℕ → Row
row_from x y = record { acceptance = number_of x; rejection = number_of y }

abbrev pub row_of : List ℕ → Row
row_of bytes = row_from (slice_index bytes 0) (slice_index bytes 1)

abbrev pub rows_of : List ℕ → List Row
rows_of [] = []
rows_of (x ∷ []) = []
rows_of (x ∷ y ∷ bs) = row_from x y ∷ rows_of bs

-- A byte of the header, the rows after it, and the number of rows that it tells.
abbrev pub byte : List ℕ → ℕ → ℕ
byte bytes i = slice_index bytes i

abbrev pub rows_in : List ℕ → List Row
rows_in bytes = rows_of (drop 8 bytes)

abbrev pub rows_told : List ℕ → ℕ
rows_told bytes = byte bytes 6 + 256 * byte bytes 7

-- What may refuse the header, in the order of testing.
abbrev pub header_tests : ℕ → List ℕ → List (Bool × SheetFault)
header_tests m bytes =
    (nat_lt (length bytes) 8, NoHeader)
    ∷ (not (byte bytes 0 == 83 && (byte bytes 1 == 81 && byte bytes 2 == 65)), OtherMark)
    ∷ (not (byte bytes 3 == 1 && byte bytes 4 == 0), OtherVersion)
    ∷ (not (byte bytes 5 == m), OtherKind)
    ∷ (not (nat_le 1 (rows_told bytes) && (nat_le (rows_told bytes) max_size && length bytes == 8 + 2 * rows_told bytes)), WrongLength)
    ∷ []

abbrev pub first_fault : List (Bool × SheetFault) → Option SheetFault
first_fault [] = None
first_fault (t ∷ ts) = cond t.0 (Some t.1) (first_fault ts)

-- Then the rows may: the first that is not lawful.
abbrev pub row_fault : Option ℕ → Option SheetFault
row_fault None = None
row_fault (Some i) = Some (UnlawfulRow i)

abbrev pub or_else : Option SheetFault → Option SheetFault → Option SheetFault
or_else None o = o
or_else (Some e) o = Some e

-- What refuses bytes as a sheet for items that give 0 to m.
abbrev pub fault_in : ℕ → List ℕ → Option SheetFault
fault_in m bytes = or_else (first_fault (header_tests m bytes)) (row_fault (first_unlawful m 1 (first m) (rows_in bytes)))

-- A load: bytes with a fault are refused for it, and the table stays as it was. Others are taken: the table then holds
-- their rows, and their number is replied; or there is no memory for that, and the table stays as it was.
abbrev pub Taken : ℕ → List ℕ → Table → Table → Result ℕ LoadFault → Type 0
Taken m bytes t t' (Ok n) = (n ≡ length (rows_in bytes)) × (vec_items t'.rows ≡ front (rows_in bytes)) × (t'.closing ≡ closing_of (final (rows_in bytes)))
Taken m bytes t t' (Err e) = (e ≡ NoMemory) × (t' ≡ t)

abbrev pub Loaded : Option SheetFault → ℕ → List ℕ → Table → Table → Result ℕ LoadFault → Type 0
Loaded (Some e) m bytes t t' r = (r ≡ Err (BadSheet e)) × (t' ≡ t)
Loaded None m bytes t t' r = Taken m bytes t t' r

-- Loading is exact: bytes have no fault exactly if they are the sheet of some lawful plan.
abbrev pub Exact : ℕ → List ℕ → Type 0
Exact m bytes =
    (fault_in m bytes ≡ None → ∥ ((b : Boundary) × Lawful b × (sheet_bytes m b ≡ bytes)) ∥₁)
    × (∥ ((b : Boundary) × Lawful b × (sheet_bytes m b ≡ bytes)) ∥₁ → fault_in m bytes ≡ None)

-- A loaded table draws the bytes that it was loaded from.
abbrev pub Redrawn : ℕ → List ℕ → Table → Result ℕ LoadFault → Type 0
Redrawn m bytes t' (Ok n) = sheet_bytes m (table_meaning (vec_items t'.rows) t'.closing) ≡ bytes
Redrawn m bytes t' (Err e) = Unit {0}
