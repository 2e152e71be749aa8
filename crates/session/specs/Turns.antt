-- The turns of a session: what a command does, and what it is answered. Assumes nothing.
use Rattle.std.specs.Prelude.{ℕ, List, replicate, Some, None, Ok, Err, Option, Result, slice_set}
use Rattle.plan.specs.Boundaries.{Boundary}
use Rattle.plan.specs.Checks.{line_outside, size_outside}
use Rattle.plan.specs.Makes.{line_meaning, single_meaning, cut_meaning}
use Rattle.plan.specs.Refusals.{refuse}
use Rattle.plan.specs.declared.refusals.Layer.TheVariants.{Number, Text}
use Rattle.plan.specs.declared.refusals.Refusal.{Refusal}
use Rattle.stand.specs.Bays.{held}
use Rattle.stand.specs.Calls.{answer, after, bay_of, decided_by}
use Rattle.stand.specs.declared.records.Call.{Call}
use Rattle.stand.specs.declared.records.Call.TheVariants.{Open as open_call, Take as take_call, Read as read_call, Clear as clear_call}
use Rattle.stand.specs.declared.records.Record.{Record}
use Rattle.stand.specs.declared.records.Reply.{Reply}
use Rattle.text.specs.declared.commands.Command.{Command}
use Rattle.text.specs.declared.commands.Command.TheVariants.{Line, Single, Cut, Open, Read, Clear, Take}
use Rattle.session.specs.Plans.{base_meaning, chosen_meaning}
use Rattle.session.specs.Refusals.{refused_line}
use Rattle.session.specs.declared.faults.SessionFault.{SessionFault}
use Rattle.session.specs.declared.turns.Answer.{Answer}
use Rattle.session.specs.declared.turns.Answer.TheVariants.{Planned, Served}
use Rattle.session.specs.declared.turns.Session.{Session}
use Rattle.session.specs.declared.turns.Turn.{Turn}
use Rattle.session.specs.declared.turns.Turn.TheVariants.{NoPlan, Fresh, Working}

-- Where a session stands: it waits for a plan; it has one, and no other line was accepted since, so that the plan may
-- yet be cut; or it works, with a plan and bays.
pub data State : Type 0 where
  waiting : State
  fresh : Boundary → State
  working : Boundary → List (Option Record) → State

-- Where a turn has a session stand; and where a session stands.
abbrev pub standing : Turn → State
standing NoPlan = waiting
standing (Fresh b) = fresh (base_meaning b)
standing (Working s) = working (chosen_meaning s.plan) s.bays

abbrev pub view : Session → State
view s = standing s.turn

-- What is left, and the answer.
abbrev pub Outcome : Type 0
Outcome = State × Result Answer Refusal

-- A refused command leaves the turn as it was.
abbrev pub refused : State → Refusal → Outcome
refused s e = (s, Err e)

abbrev pub no_plan : Refusal
no_plan = refuse 23 Text 1

abbrev pub out_of_turn : Refusal
out_of_turn = refuse 24 Text 1

-- marks: the greatest count is 1
abbrev pub marks : ℕ
marks = 1

abbrev pub all_empty : List (Option Record)
all_empty = replicate 32 None

-- A plan of given meaning is chosen, unless a number lies outside its limits.
abbrev pub checked : State → State → ℕ → Option ℕ → Outcome
checked s next last None = (next, Ok (Planned last))
checked s next last (Some i) = refused s (refuse 2 Number i)

-- L and S come first, and are accepted once.
abbrev pub planned : State → Boundary → Option ℕ → Outcome
planned waiting p outside = checked waiting (fresh p) p.last outside
planned (fresh q) p outside = refused (fresh q) out_of_turn
planned (working q bays) p outside = refused (working q bays) out_of_turn

-- C comes right after.
abbrev pub cut : State → ℕ → ℕ → Outcome
cut waiting c a = refused waiting no_plan
cut (fresh p) c a = checked (fresh p) (working (cut_meaning c a p) all_empty) (cut_meaning c a p).last (size_outside c a)
cut (working p bays) c a = refused (working p bays) out_of_turn

-- A call of the stand: the state s stays where the stand refuses it.
abbrev pub replied : State → State → Call → Result Reply Refusal → Outcome
replied s next c (Ok r) = (next, Ok (Served c r))
replied s next c (Err e) = refused s e

abbrev pub put : State → Boundary → List (Option Record) → Call → Outcome
put s p bays c =
    replied s (working p (slice_set bays (bay_of c) (after marks (decided_by p) p c (held bays (bay_of c))))) c
    (answer marks (decided_by p) p c (held bays (bay_of c)))

abbrev pub called : State → Call → Outcome
called waiting c = refused waiting no_plan
called (fresh p) c = put (fresh p) p all_empty c
called (working p bays) c = put (working p bays) p bays c

-- What a command does.
abbrev pub acted : State → Command → Outcome
acted s (Line ha hr g n a) = planned s (line_meaning ha hr g n a) (line_outside ha hr g n a)
acted s (Single n a) = planned s (single_meaning n a) (size_outside n a)
acted s (Cut c a) = cut s c a
acted s (Open b) = called s (open_call b)
acted s (Read b) = called s (read_call b)
acted s (Clear b) = called s (clear_call b)
acted s (Take b n) = called s (take_call b n)

-- The answers and replies of the code, with each fault as its refusal.
abbrev pub told : Result Answer SessionFault → Result Answer Refusal
told (Ok a) = Ok a
told (Err e) = Err (refused_line e)
