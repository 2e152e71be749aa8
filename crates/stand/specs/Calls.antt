-- What a call of a stand replies, and what it leaves in the bay that it names. Assumes nothing.
use Rattle.std.specs.Prelude.{◌≡◌, ℕ, ◌+◌, Bool, false, cond, not, ◌||◌, List, [], ◌∷◌, is_some, is_ok, Some, None, Ok, Err, Option, Result, nat_le, nat_lt, slice_set}
use Rattle.plan.specs.Boundaries.{Boundary}
use Rattle.plan.specs.Refusals.{refuse}
use Rattle.plan.specs.Rulings.{ruling_at}
use Rattle.plan.specs.declared.refusals.Layer.TheVariants.{Bay, Number}
use Rattle.plan.specs.declared.refusals.Refusal.{Refusal}
use Rattle.stand.specs.Bays.{Standing, held}
use Rattle.stand.specs.declared.records.Call.{Call}
use Rattle.stand.specs.declared.records.Call.TheVariants.{Open, Take, Read, Clear}
use Rattle.stand.specs.declared.records.Record.{Record}
use Rattle.stand.specs.declared.records.Reply.{Reply}
use Rattle.stand.specs.declared.records.Reply.TheVariants.{Opened, Lot}

-- the greatest bay
abbrev pub last_bay : ℕ
last_bay = 31

abbrev pub bay_of : Call → ℕ
bay_of (Open b) = b
bay_of (Take b n) = b
bay_of (Read b) = b
bay_of (Clear b) = b

-- A lot is decided once it has a verdict.
abbrev pub has_verdict : Record → Bool
has_verdict r = is_some r.verdict

-- A stand also counts a lot as decided that stands at the plan's last size. In a working life that is the same:
-- the law of histories says so.
abbrev pub decided_by : Boundary → Record → Bool
decided_by p r = is_some r.verdict || nat_le p.last r.size

abbrev pub satisfies : (Record → Bool) → Option Record → Bool
satisfies test None = false
satisfies test (Some r) = test r

-- What may refuse a call, in the order of testing: what was sent before what stood there, lower causes first.
-- `m` is the greatest count of the kind, `decided` tells a decided lot, `o` is what the named bay holds.
abbrev pub tests : ℕ → (Record → Bool) → Call → Option Record → List (Bool × Refusal)
tests m decided (Open b) o = (nat_lt last_bay b, refuse 1 Bay b) ∷ (is_some o, refuse 20 Bay b) ∷ []
tests m decided (Take b n) o =
    (nat_lt last_bay b, refuse 1 Bay b) ∷ (nat_lt m n, refuse 3 Number 1) ∷ (not (is_some o), refuse 21 Bay b) ∷ (satisfies decided o, refuse 22 Bay b) ∷ []
tests m decided (Read b) o = (nat_lt last_bay b, refuse 1 Bay b) ∷ (not (is_some o), refuse 21 Bay b) ∷ []
tests m decided (Clear b) o = (nat_lt last_bay b, refuse 1 Bay b) ∷ (not (is_some o), refuse 21 Bay b) ∷ []

abbrev pub first_fitting : List (Bool × Refusal) → Option Refusal
first_fitting [] = None
first_fitting (t ∷ ts) = cond t.0 (Some t.1) (first_fitting ts)

-- A new record, and a record after one more item, on which the plan rules.
abbrev pub fresh : Record
fresh = record { size = 0; count = 0; verdict = None }

abbrev pub one_more : Boundary → ℕ → Record → Record
one_more p n r = record { size = r.size + 1; count = r.count + n; verdict = ruling_at p (r.size + 1) (r.count + n) }

abbrev pub lot : Option Record → Record
lot None = fresh
lot (Some r) = r

-- The reply to a call that is not refused.
abbrev pub granted : Boundary → Call → Option Record → Reply
granted p (Open b) o = Opened b
granted p (Take b n) o = Lot (one_more p n (lot o))
granted p (Read b) o = Lot (lot o)
granted p (Clear b) o = Lot (lot o)

-- What the named bay holds after a call that is not refused.
abbrev pub left : Boundary → Call → Option Record → Option Record
left p (Open b) o = Some fresh
left p (Take b n) o = Some (one_more p n (lot o))
left p (Read b) o = o
left p (Clear b) o = None

-- The reply to a call, and what the named bay holds after it: a refused call leaves it as it was.
abbrev pub reply_by : Option Refusal → Reply → Result Reply Refusal
reply_by None r = Ok r
reply_by (Some e) r = Err e

abbrev pub answer : ℕ → (Record → Bool) → Boundary → Call → Option Record → Result Reply Refusal
answer m decided p c o = reply_by (first_fitting (tests m decided c o)) (granted p c o)

abbrev pub after : ℕ → (Record → Bool) → Boundary → Call → Option Record → Option Record
after m decided p c o = cond (is_some (first_fitting (tests m decided c o))) o (left p c o)

-- The replies of the code, with each fault as its refusal.
abbrev pub told : {A F : Type 0} → (A → Reply) → (F → Refusal) → Result A F → Result Reply Refusal
told reply refused (Ok x) = Ok (reply x)
told reply refused (Err e) = Err (refused e)

-- A call served: its reply, and the bays after it. Only the named bay may change, and a refused call changes nothing.
-- `m` is the greatest count of the kind, `p` what the stand's plan means.
pub record Served (m : ℕ) (p : Boundary) (c : Call) (before later : List (Option Record)) (r : Result Reply Refusal) : Type 0 where
  pub reply : r ≡ answer m (decided_by p) p c (held before (bay_of c))
  pub bays : later ≡ slice_set before (bay_of c) (after m (decided_by p) p c (held before (bay_of c)))
  pub kept : is_ok r ≡ false → later ≡ before

-- A stand that serves a call keeps its plan.
pub record Serves {P : Type 0} (m : ℕ) (meaning : P → Boundary) (c : Call) (s s' : Standing P) (r : Result Reply Refusal) : Type 0 where
  pub served : Served m (meaning s.plan) c s.bays s'.bays r
  pub plan : s'.plan ≡ s.plan
