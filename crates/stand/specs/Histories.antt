-- The law over histories: what the calls of a working life do to the bays, and what they are answered. Assumes nothing.
use Rattle.std.specs.Prelude.{◌≡◌, ℕ, Bool, true, cond, List, [], ◌∷◌, ◌++◌, length, is_ok, Some, None, Option, Result, ◌==◌}
use Rattle.std.specs.List.{AllByRecursion}
use Rattle.plan.specs.Boundaries.{Boundary}
use Rattle.plan.specs.Rulings.{Judges, total}
use Rattle.plan.specs.declared.refusals.Refusal.{Refusal}
use Rattle.stand.specs.Bays.{held}
use Rattle.stand.specs.Calls.{answer, bay_of, has_verdict, told}
use Rattle.stand.specs.Refusals.{refused_call}
use Rattle.stand.specs.declared.records.Call.{Call}
use Rattle.stand.specs.declared.records.Call.TheVariants.{Open, Take, Read, Clear}
use Rattle.stand.specs.declared.records.Entry.{Entry}
use Rattle.stand.specs.declared.records.Record.{Record}
use Rattle.stand.specs.declared.records.Reply.{Reply}
use Rattle.stand.specs.declared.records.StandFault.{StandFault}

-- A history is a list of calls with their replies, oldest first.
abbrev pub Step : Type 0
Step = Call × Result Reply Refusal

abbrev pub call_of : Entry → Call
call_of e = e.call

-- The steps of the entries that have a reply.
abbrev pub step_of : Call → Option (Result Reply StandFault) → List Step
step_of c None = []
step_of c (Some r) = (c, told (λ x. x) refused_call r) ∷ []

abbrev pub steps : List Entry → List Step
steps [] = []
steps (e ∷ es) = step_of e.call e.reply ++ steps es

-- An opening of bay b, and a clearing of it, that are not refused.
abbrev pub Opens : ℕ → Step → Type 0
Opens b s = (s.0 ≡ Open b) × (is_ok s.1 ≡ true)

abbrev pub Clears : ℕ → Step → Type 0
Clears b s = (s.0 ≡ Clear b) × (is_ok s.1 ≡ true)

-- The counts of the items that takings into bay b took, in their order. A refused taking takes none.
abbrev pub taken_by : ℕ → Call → Bool → List ℕ
taken_by b (Open a) ok = []
taken_by b (Take a n) ok = cond ok (cond (a == b) (n ∷ []) []) []
taken_by b (Read a) ok = []
taken_by b (Clear a) ok = []

abbrev pub taken : ℕ → List Step → List ℕ
taken b [] = []
taken b (s ∷ h) = taken_by b s.0 (is_ok s.1) ++ taken b h

-- After a history bay b is occupied, by a lot of which items with counts xs were taken: the history splits at an
-- opening of b that is not refused, no clearing of b goes unrefused after it, and xs are the counts taken since.
pub record Occupied (b : ℕ) (h : List Step) (xs : List ℕ) : Type 0 where
  pub earlier : List Step
  pub opening : Step
  pub since : List Step
  pub split : h ≡ earlier ++ (opening ∷ since)
  pub opens : Opens b opening
  pub uncleared : AllByRecursion (λ s. Clears b s → ⊥) since
  pub items : taken b since ≡ xs

-- What bay b holds after a history, under a plan: of an occupied bay the number of items taken, the sum of their
-- counts and the plan's verdict on just those counts; any other bay is empty.
abbrev pub Holds : Boundary → List Step → ℕ → Option Record → Type 0
Holds p h b None = (xs : List ℕ) → Occupied b h xs → ⊥
Holds p h b (Some r) = (xs : List ℕ) × Occupied b h xs × (r.size ≡ length xs) × (r.count ≡ total xs) × Judges p xs r.verdict

-- The reply to a call after a history: the one that its kind (by the greatest count m), its plan and what the named
-- bay holds after that history give. Taking is refused as decided exactly if there is a verdict.
abbrev pub Replied : ℕ → Boundary → List Step → Step → Type 0
Replied m p h s = (o : Option Record) × Holds p h (bay_of s.0) o × (s.1 ≡ answer m has_verdict p s.0 o)

-- The law: what each bay holds after the whole history, and the reply to each of its calls from the history before it.
pub record Lived (m : ℕ) (p : Boundary) (h : List Step) (bays : List (Option Record)) : Type 0 where
  pub holds : (b : ℕ) → Holds p h b (held bays b)
  pub replies : (earlier : List Step) (s : Step) (later : List Step) → h ≡ earlier ++ (s ∷ later) → Replied m p earlier s
