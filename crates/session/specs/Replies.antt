-- The reply lines of a session. Assumes nothing.
use Rattle.std.specs.Prelude.{◌≡◌, ℕ, ◌≤◌, List, [], ◌∷◌, ◌++◌, map, length, Some, None, Ok, Err, decimal, Option, Result}
use Rattle.plan.specs.declared.refusals.Layer.{Layer}
use Rattle.plan.specs.declared.refusals.Layer.TheVariants.{Bay, Number, Text, Memory, Sheet}
use Rattle.plan.specs.declared.refusals.Refusal.{Refusal}
use Rattle.plan.specs.declared.verdicts.Verdict.{Verdict}
use Rattle.plan.specs.declared.verdicts.Verdict.TheVariants.{Accept, Reject}
use Rattle.stand.specs.Calls.{bay_of}
use Rattle.stand.specs.declared.records.Call.{Call}
use Rattle.stand.specs.declared.records.Call.TheVariants.{Open, Take, Read, Clear}
use Rattle.stand.specs.declared.records.Reply.TheVariants.{Opened, Lot}
use Rattle.text.specs.Words.{spaced_on}
use Rattle.text.specs.Writes.{over}
use Rattle.session.specs.declared.replies.Field.{Field}
use Rattle.session.specs.declared.replies.Field.TheVariants.{Count, Letter}
use Rattle.session.specs.declared.turns.Answer.{Answer}
use Rattle.session.specs.declared.turns.Answer.TheVariants.{Planned, Served}

-- A field of a reply: a number in decimal digits, or a letter.
abbrev pub field_text : Field → List ℕ
field_text (Count n) = decimal n
field_text (Letter b) = b ∷ []

-- A reply of at most 96 bytes written at the front of a buffer.
pub record Spelt (reply buffer buffer' : List ℕ) (r : ℕ) : Type 0 where
  pub bytes : buffer' ≡ over reply buffer
  pub count : r ≡ length reply
  pub short : r ≤ 96

-- A reply line: a letter and its fields, parted by single spaces, and a line feed.
abbrev pub reply_line : ℕ → List Field → List ℕ
reply_line letter fields = letter ∷ (spaced_on (map field_text fields) ++ (10 ∷ []))

-- A, R or -
abbrev pub verdict_letter : Option Verdict → ℕ
verdict_letter None = 45
verdict_letter (Some Accept) = 65
verdict_letter (Some Reject) = 82

-- I, R and X for an item taken, a bay read and a bay cleared; O for one opened
abbrev pub call_letter : Call → ℕ
call_letter (Open b) = 79
call_letter (Take b n) = 73
call_letter (Read b) = 82
call_letter (Clear b) = 88

abbrev pub layer_letter : Layer → ℕ
layer_letter Bay = 66
layer_letter Number = 78
layer_letter Text = 84
layer_letter Memory = 77
layer_letter Sheet = 72

-- P and the last size; O and the bay; I, R or X, the bay, the size, the count and the verdict
abbrev pub answer_line : Answer → List ℕ
answer_line (Planned n) = reply_line 80 (Count n ∷ [])
answer_line (Served c (Opened b)) = reply_line (call_letter c) (Count b ∷ [])
answer_line (Served c (Lot r)) = reply_line (call_letter c) (Count (bay_of c) ∷ Count r.size ∷ Count r.count ∷ Letter (verdict_letter r.verdict) ∷ [])

-- ! and the cause, the layer, the place and the number of the line
abbrev pub refusal_line : Refusal → ℕ → List ℕ
refusal_line e line = reply_line 33 (Count e.cause ∷ Letter (layer_letter e.layer) ∷ Count e.place ∷ Count line ∷ [])

abbrev pub line_for : Result Answer Refusal → ℕ → List ℕ
line_for (Ok a) line = answer_line a
line_for (Err e) line = refusal_line e line
