-- What the bays of a stand hold. Assumes nothing.
use Rattle.std.specs.Prelude.{◌≡◌, ℕ, ◌*◌, ◌≤◌, List, Some, None, Option, slice_index_or}
use Rattle.plan.specs.Limits.{max_size, max_count}
use Rattle.stand.specs.declared.records.Record.{Record}

-- What a stand shows: its plan, and what each bay holds.
pub record Standing (P : Type 0) : Type 0 where
  pub plan : P
  pub bays : List (Option Record)

-- A bay is empty, or holds the record of its lot. A bay that is not there is empty.
abbrev pub held : List (Option Record) → ℕ → Option Record
held bays b = slice_index_or bays b None

-- A record is small: at most the greatest size, and no item gave more than any item may.
abbrev pub Small : List (Option Record) → Type 0
Small bays = (b : ℕ) (r : Record) → held bays b ≡ Some r → (r.size ≤ max_size) × (r.count ≤ max_count * r.size)
