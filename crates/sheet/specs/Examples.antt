-- Examples that were reckoned by hand: those of plans and rulings, and examples of sheets of the carried line for
-- consumer's risk quality 10.0 % and of small plans, for marks. Assumes nothing.
use Rattle.std.specs.Prelude.{◌≡◌, ℕ, List, [], ◌∷◌, ◌++◌, map, length, replicate, Some, None, Option}
use Rattle.plan.specs.Boundaries.{Boundary}
use Rattle.plan.specs.Examples.{Example as PlanExample, Shown as PlanShown, examples as plan_examples, ten}
use Rattle.plan.specs.Makes.{single_meaning, cut_meaning}
use Rattle.sheet.specs.Bytes.{sheet_bytes}
use Rattle.sheet.specs.Loads.{fault_in}
use Rattle.sheet.specs.Sheets.{points, sheet}
use Rattle.sheet.specs.declared.faults.SheetFault.{SheetFault}
use Rattle.sheet.specs.declared.faults.SheetFault.TheVariants.{UnlawfulRow}
use Rattle.sheet.specs.declared.rows.Row.{Row}

-- the kind of item: marks
abbrev pub marks : ℕ
marks = 1

-- Rows that stand several times in a row, each with how often, its acceptance number and its rejection number.
abbrev pub Run : Type 0
Run = ℕ × Option ℕ × Option ℕ

abbrev pub runs : List Run → List Row
runs [] = []
runs (r ∷ rs) = replicate r.0 (record { acceptance = r.1; rejection = r.2 }) ++ runs rs

-- What an example says.
pub data Example : Type 0 where
  of_plans : PlanExample → Example
  has_rows : Boundary → List Run → Example
  has_extent : Boundary → ℕ → ℕ → Example
  has_bytes : Boundary → List ℕ → Example
  same_rows : Boundary → Boundary → Example
  refused_for : List ℕ → SheetFault → Example

abbrev pub Shown : Example → Type 0
Shown (of_plans e) = PlanShown e
Shown (has_rows b rs) = sheet marks b ≡ runs rs
Shown (has_extent b rows n) = (length (sheet marks b) ≡ rows) × (points marks b ≡ n)
Shown (has_bytes b bytes) = sheet_bytes marks b ≡ bytes
Shown (same_rows b c) = sheet marks b ≡ sheet marks c
Shown (refused_for bytes e) = fault_in marks bytes ≡ Some e

-- rows 1 to 24 of the line of 10.0 %, and the others
abbrev pub ten_begins : List Run
ten_begins = (1, None, Some 1) ∷ (1, None, None) ∷ (21, None, Some 2) ∷ (1, Some 0, Some 2) ∷ []

abbrev pub ten_goes_on : List Run
ten_goes_on = (3, None, Some 2) ∷ (1, None, None) ∷ (21, None, Some 3) ∷ (1, Some 1, Some 3) ∷ (14, None, Some 3) ∷ (1, Some 2, Some 3) ∷ []

-- three items of which none can be too many
abbrev pub three_any : List Run
three_any = (2, None, None) ∷ (1, Some 3, None) ∷ []

abbrev pub sheet_examples : List Example
sheet_examples =
    has_rows ten (ten_begins ++ ten_goes_on)
    ∷ has_extent ten 65 174
    ∷ has_rows (cut_meaning 40 1 ten) (ten_begins ++ ((15, None, Some 2) ∷ (1, Some 1, Some 2) ∷ []))
    ∷ same_rows (cut_meaning 1 0 ten) (single_meaning 1 0)
    ∷ has_rows (single_meaning 3 5) three_any
    ∷ has_rows (single_meaning 3 3) three_any
    ∷ has_bytes (single_meaning 2 0) (83 ∷ 81 ∷ 65 ∷ 1 ∷ 0 ∷ 1 ∷ 2 ∷ 0 ∷ 255 ∷ 1 ∷ 0 ∷ 1 ∷ [])
    ∷ refused_for (83 ∷ 81 ∷ 65 ∷ 1 ∷ 0 ∷ 1 ∷ 1 ∷ 0 ∷ 0 ∷ 2 ∷ []) (UnlawfulRow 1)
    ∷ []

abbrev pub examples : List Example
examples = map of_plans plan_examples ++ sheet_examples

abbrev pub AllShown : List Example → Type 0
AllShown [] = Unit {0}
AllShown (e ∷ es) = Shown e × AllShown es

abbrev pub ExamplesHold : Type 0
ExamplesHold = AllShown examples
