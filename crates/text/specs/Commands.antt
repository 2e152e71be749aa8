-- The commands that a line can write. Assumes nothing.
use Rattle.std.specs.Prelude.{ℕ, ◌+◌, if◌then◌else◌, List, [], ◌∷◌, length, Some, None, Ok, Err, Option, Result, ◌==◌, nat_le}
use Rattle.text.specs.Numerals.{whole_of, decimal_of}
use Rattle.text.specs.Readers.{letter_of, unreadable}
use Rattle.text.specs.Words.{words}
use Rattle.text.specs.declared.commands.Command.{Command}
use Rattle.text.specs.declared.commands.Command.TheVariants.{Line, Single, Cut, Open, Read, Clear, Take}
use Rattle.text.specs.declared.words.Unreadable.{Unreadable}

-- the kinds of number that a word can write
pub data Kind : Type 0 where
  Whole : Kind
  Decimal : Kind

abbrev pub number_of : Kind → List ℕ → Option ℕ
number_of Whole w = whole_of w
number_of Decimal w = decimal_of w

-- a value, from a number of each kind
abbrev pub From : List Kind → Type 0 → Type 0
From [] A = A
From (k ∷ ks) A = ℕ → From ks A

-- what the words from position p on write, one number of each kind, or the position of the first word
-- that is missing, bad or extra
abbrev pub read_numbers : {A : Type 0} → (ks : List Kind) → From ks A → ℕ → List (List ℕ) → Result A Unreadable
read_numbers [] made p [] = Ok made
read_numbers [] made p (w ∷ ws) = Err (unreadable p)
read_numbers (k ∷ ks) make p [] = Err (unreadable p)
read_numbers (k ∷ ks) make p (w ∷ ws) = elim (number_of k w) [ None ↦ Err (unreadable p) | Some n ↦ read_numbers ks (make n) (p + 1) ws ]

-- a letter's command: the kinds of its numbers, and the command with them, in this order
pub record Form : Type 0 where
  pub kinds : List Kind
  pub made : From kinds Command

abbrev pub form : (ks : List Kind) → From ks Command → Option Form
form ks made = Some (record { kinds = ks; made = made })

-- by the letters L, S, C, O, R, X and I
abbrev pub form_of : ℕ → Option Form
form_of b =
    if b == 76 then form (Decimal ∷ Decimal ∷ Decimal ∷ Whole ∷ Whole ∷ []) Line
    else if b == 83 then form (Whole ∷ Whole ∷ []) Single
    else if b == 67 then form (Whole ∷ Whole ∷ []) Cut
    else if b == 79 then form (Whole ∷ []) Open
    else if b == 82 then form (Whole ∷ []) Read
    else if b == 88 then form (Whole ∷ []) Clear
    else if b == 73 then form (Whole ∷ Whole ∷ []) Take
    else None

-- the letter is the word at position 1, its numbers are the words after it
abbrev pub formed : Option Form → List (List ℕ) → Result Command Unreadable
formed None ws = Err (unreadable 1)
formed (Some f) ws = read_numbers f.kinds f.made 2 ws

abbrev pub lettered : Option ℕ → List (List ℕ) → Result Command Unreadable
lettered None ws = Err (unreadable 1)
lettered (Some b) ws = formed (form_of b) ws

abbrev pub command_in : List (List ℕ) → Result Command Unreadable
command_in [] = Err (unreadable 1)
command_in (w ∷ ws) = lettered (letter_of w) ws

-- a line is at most 80 bytes
abbrev pub command_of : List ℕ → Result Command Unreadable
command_of line = if nat_le (length line) 80 then command_in (words line) else Err (unreadable 1)
