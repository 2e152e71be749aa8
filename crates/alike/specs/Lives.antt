-- Working lives of a stand, and two stands that reply alike. Assumes nothing.
use Rattle.std.specs.Prelude.{◌≡◌, ℕ, List, ◌∷◌, ◌++◌, map}
use Rattle.plan.specs.Boundaries.{Boundary}
use Rattle.stand.specs.Histories.{Step, Replied}
use Rattle.stand.specs.declared.records.Call.{Call}

-- The call of a step.
abbrev pub call_in : Step → Call
call_in s = s.0

-- A working life of a stand with a plan, for a kind of greatest count m: calls with their replies, oldest first, each
-- reply the one that the kind, the plan and the calls before it give.
abbrev pub Life : ℕ → Boundary → List Step → Type 0
Life m p h = (earlier : List Step) (s : Step) (later : List Step) → h ≡ earlier ++ (s ∷ later) → Replied m p earlier s

-- Every list of calls has a life.
abbrev pub Lives : ℕ → Boundary → Type 0
Lives m p = (calls : List Call) → (h : List Step) × (map call_in h ≡ calls) × Life m p h

-- Two stands reply alike: calls that are put to both get equal replies.
abbrev pub ReplyAlike : ℕ → Boundary → Boundary → Type 0
ReplyAlike m p q = (g h : List Step) → map call_in g ≡ map call_in h → Life m p g → Life m q h → g ≡ h
