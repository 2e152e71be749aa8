-- One line of a session: what is left, what is replied, and what the reply buffer holds. Assumes nothing.
use Rattle.std.specs.Prelude.{◌≡◌, ℕ, ◌+◌, ◌≤◌, min, false, cond, List, length, Ok, Err, Result, nat_lt}
use Rattle.plan.specs.Refusals.{refuse}
use Rattle.plan.specs.declared.refusals.Layer.TheVariants.{Text, Memory}
use Rattle.plan.specs.declared.refusals.Refusal.{Refusal}
use Rattle.text.specs.Commands.{command_of}
use Rattle.text.specs.declared.commands.Command.{Command}
use Rattle.text.specs.declared.words.Unreadable.{Unreadable}
use Rattle.session.specs.Refusals.{refused_line}
use Rattle.text.specs.Writes.{over}
use Rattle.session.specs.Replies.{line_for}
use Rattle.session.specs.Turns.{State, Outcome, acted, refused}
use Rattle.session.specs.declared.faults.RefusedLine.{RefusedLine}

-- Lines count from 1 and stop at 999,999.
abbrev pub next_line : ℕ → ℕ
next_line n = min (n + 1) 999999

-- A reply buffer has at least this many bytes.
abbrev pub reply_room : ℕ
reply_room = 96

-- A line that reads does what its command does; any other is refused at its first bad, missing or extra word.
abbrev pub obeyed : State → Result Command Unreadable → Outcome
obeyed s (Ok c) = acted s c
obeyed s (Err u) = refused s (refuse 12 Text u.position)

abbrev pub heard : State → List ℕ → Outcome
heard s line = obeyed s (command_of line)

-- The reply line, by the number of the line.
abbrev pub reply_to : State → List ℕ → ℕ → List ℕ
reply_to s line number = line_for (heard s line).1 number

-- One line answered. A buffer that is too short is refused first: nothing is written and the turn stays, but the
-- line counts. `n` and `n'` are the number of the last line before and after.
pub record Answered (s s' : State) (n n' : ℕ) (line buffer buffer' : List ℕ) (r : Result ℕ (Refusal × ℕ)) : Type 0 where
  pub number : n' ≡ next_line n
  pub state : s' ≡ cond (nat_lt (length buffer) reply_room) s (heard s line).0
  pub bytes : buffer' ≡ cond (nat_lt (length buffer) reply_room) buffer (over (reply_to s line (next_line n)) buffer)
  pub result : r ≡ cond (nat_lt (length buffer) reply_room) (Err (refuse 13 Memory 96, next_line n)) (Ok (length (reply_to s line (next_line n))))
  pub short : nat_lt (length buffer) reply_room ≡ false → length (reply_to s line (next_line n)) ≤ reply_room

-- A refused line as its refusal and its number.
abbrev pub told_line : Result ℕ RefusedLine → Result ℕ (Refusal × ℕ)
told_line (Ok n) = Ok n
told_line (Err e) = Err (refused_line e.fault, e.line)
