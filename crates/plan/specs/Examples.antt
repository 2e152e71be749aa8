-- Examples that were reckoned by hand: the carried line for consumer's risk quality 10.0 %, and marks. Assumes nothing.
use Rattle.std.specs.Prelude.{◌≡◌, ℕ, ◌≤◌, List, [], ◌∷◌, ◌++◌, take, replicate, ℤ, pos, negsuc, Some, None}
use Rattle.plan.specs.Boundaries.{Boundary, acceptance, rejection}
use Rattle.plan.specs.Carried.{carried_lines, line_of}
use Rattle.plan.specs.Makes.{line_meaning}
use Rattle.plan.specs.Rulings.{Rules, Ends, total}
use Rattle.plan.specs.declared.verdicts.Verdict.{Verdict}
use Rattle.plan.specs.declared.verdicts.Verdict.TheVariants.{Accept, Reject}

-- the line of 10.0 %
abbrev pub ten : Boundary
ten = line_meaning 931000 922000 39400 65 2

-- What an example says. A series is a list of counts.
pub data Example : Type 0 where
  is_ten : Example
  accepts_to : ℕ → ℤ → Example
  rejects_from : ℕ → ℤ → Example
  live_to : List ℕ → ℕ → Example
  ends : List ℕ → ℕ → Verdict → Example

abbrev pub Shown : Example → Type 0
Shown is_ten = line_of 1000 carried_lines ≡ Some (931000, 922000, 39400, 65, 2)
Shown (accepts_to n z) = acceptance ten n ≡ z
Shown (rejects_from n z) = rejection ten n ≡ z
Shown (live_to xs n) = (k : ℕ) → 1 ≤ k → k ≤ n → Rules (ten.pairs k) (total (take k xs)) None
Shown (ends xs n v) = Ends ten xs n v

-- clean but for item 15
abbrev pub late_fault : List ℕ
late_fault = replicate 14 0 ++ (1 ∷ replicate 35 0)

abbrev pub examples : List Example
examples =
    is_ten
    ∷ accepts_to 23 (negsuc 0) ∷ accepts_to 24 (pos 0) ∷ accepts_to 49 (pos 0) ∷ accepts_to 50 (pos 1)
    ∷ rejects_from 1 (pos 1) ∷ rejects_from 2 (pos 2) ∷ rejects_from 27 (pos 2) ∷ rejects_from 28 (pos 3) ∷ rejects_from 53 (pos 3)
    ∷ live_to late_fault 49 ∷ ends late_fault 50 Accept
    ∷ ends (1 ∷ []) 1 Reject
    ∷ []

abbrev pub AllShown : List Example → Type 0
AllShown [] = Unit {0}
AllShown (e ∷ es) = Shown e × AllShown es

abbrev pub ExamplesHold : Type 0
ExamplesHold = AllShown examples
