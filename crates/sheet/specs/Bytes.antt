-- The bytes of a sheet, and a sheet drawn in a buffer. Assumes nothing.
use Rattle.std.specs.Prelude.{◌≡◌, ℕ, ◌/◌, ◌%◌, cond, List, [], ◌∷◌, ◌++◌, length, Some, None, Ok, Err, Option, Result, nat_lt}
use Rattle.std.specs.List.{flat_map}
use Rattle.plan.specs.Boundaries.{Boundary}
use Rattle.plan.specs.Refusals.{refuse}
use Rattle.plan.specs.declared.refusals.Layer.TheVariants.{Memory}
use Rattle.plan.specs.declared.refusals.Refusal.{Refusal}
use Rattle.text.specs.Writes.{over}
use Rattle.sheet.specs.Refusals.{refused_sheet}
use Rattle.sheet.specs.Sheets.{sheet}
use Rattle.sheet.specs.declared.faults.SheetFault.{SheetFault}
use Rattle.sheet.specs.declared.rows.Row.{Row}

-- A number of a row, 255 where there is none; a row's two numbers.
abbrev pub number_byte : Option ℕ → ℕ
number_byte None = 255
number_byte (Some n) = n

abbrev pub row_bytes : Row → List ℕ
row_bytes r = number_byte r.acceptance ∷ number_byte r.rejection ∷ []

-- The mark "SQA", version 1 in 16 bits with the low byte first, the greatest count of the kind, and the number of rows
-- in 16 bits with the low byte first.
abbrev pub header : ℕ → ℕ → List ℕ
header m rows = 83 ∷ 81 ∷ 65 ∷ 1 ∷ 0 ∷ m ∷ rows % 256 ∷ rows / 256 ∷ []

abbrev pub bytes_of : ℕ → List Row → List ℕ
bytes_of m rows = header m (length rows) ++ flat_map row_bytes rows

abbrev pub sheet_bytes : ℕ → Boundary → List ℕ
sheet_bytes m b = bytes_of m (sheet m b)

-- A sheet drawn: its bytes stand at the front of the buffer, whose rest stays, and their number is replied; a buffer
-- that is too short is refused with the length needed, and stays as it was.
pub record Drawn (m : ℕ) (b : Boundary) (buffer buffer' : List ℕ) (r : Result ℕ Refusal) : Type 0 where
  pub bytes : buffer' ≡ cond (nat_lt (length buffer) (length (sheet_bytes m b))) buffer (over (sheet_bytes m b) buffer)
  pub result : r ≡ cond (nat_lt (length buffer) (length (sheet_bytes m b))) (Err (refuse 13 Memory (length (sheet_bytes m b)))) (Ok (length (sheet_bytes m b)))

-- A result of the code, with its fault as the refusal.
abbrev pub told : Result ℕ SheetFault → Result ℕ Refusal
told (Ok n) = Ok n
told (Err e) = Err (refused_sheet e)
