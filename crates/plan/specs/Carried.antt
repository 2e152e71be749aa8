-- The carried lines. Assumes nothing.
use Rattle.std.specs.Prelude.{ℕ, Bool, true, cond, not, ◌&&◌, List, [], ◌∷◌, is_some, Some, None, Option, ◌==◌}
use Rattle.plan.specs.Checks.{LineHolds, line_outside}
use Rattle.plan.specs.declared.numbers.LineNumbers.{LineNumbers}

-- the numbers of a line: h_A, h_R and g in millionths, the cut size, the cut number
abbrev pub Five : Type 0
Five = ℕ × ℕ × ℕ × ℕ × ℕ

-- For producer's risk quality 1.00 %: the consumer's risk quality, in hundredths of a percent, and the line's numbers.
abbrev pub carried_lines : List (ℕ × Five)
carried_lines =
    (200, (3181000, 4255000, 14300, 1801, 25)) ∷
    (250, (2434000, 3077000, 16300, 906, 14)) ∷
    (315, (1871000, 2430000, 18400, 536, 9)) ∷
    (400, (1581000, 1851000, 21500, 311, 6)) ∷
    (500, (1389000, 1591000, 25100, 189, 4)) ∷
    (630, (1181000, 1308000, 28800, 127, 3)) ∷
    (800, (1058000, 1046000, 34100, 77, 2)) ∷
    (1000, (931000, 922000, 39400, 65, 2)) ∷
    (1250, (850000, 940000, 46600, 37, 1)) ∷
    (1600, (721000, 779000, 55400, 30, 1)) ∷
    (2000, (659000, 672000, 65800, 22, 1)) ∷
    (2500, (700000, 650000, 79400, 15, 1)) ∷
    (3150, (580000, 500000, 96500, 11, 1)) ∷
    []

-- The numbers of every line of a table lie within their limits.
abbrev pub all_within : List (ℕ × Five) → Bool
all_within [] = true
all_within (l ∷ ls) = not (is_some (line_outside l.1.0 l.1.1 l.1.2 l.1.3 l.1.4)) && all_within ls

-- The first line of that quality.
abbrev pub line_of : ℕ → List (ℕ × Five) → Option Five
line_of q [] = None
line_of q (l ∷ ls) = cond (l.0 == q) (Some l.1) (line_of q ls)

-- A record that holds a line's numbers, or none where there is no line.
abbrev pub Holds : Option Five → Option LineNumbers → Type 0
Holds None None = Unit {0}
Holds None (Some r) = ⊥
Holds (Some l) None = ⊥
Holds (Some l) (Some r) = LineHolds l.0 l.1 l.2 l.3 l.4 r
