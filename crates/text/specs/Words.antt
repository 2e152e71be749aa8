-- The words of a line: what stands between its spaces. Assumes nothing.
use Rattle.std.specs.Prelude.{◌≡◌, ℕ, ◌<◌, if◌then◌else◌, List, [], ◌∷◌, ◌++◌, length, ◌==◌, ◌≢◌}
use Rattle.std.specs.List.{AllByRecursion}

-- c before the first of the words
abbrev pub with_first : ℕ → List (List ℕ) → List (List ℕ)
with_first c [] = (c ∷ []) ∷ []
with_first c (w ∷ ws) = (c ∷ w) ∷ ws

-- n spaces part n + 1 words; a word may be empty
abbrev pub words : List ℕ → List (List ℕ)
words [] = [] ∷ []
words (c ∷ cs) = if c == 32 then [] ∷ words cs else with_first c (words cs)

-- the words joined by single spaces
abbrev pub spaced_on : List (List ℕ) → List ℕ
spaced_on [] = []
spaced_on (w ∷ ws) = 32 ∷ (w ++ spaced_on ws)

abbrev pub spaced : List (List ℕ) → List ℕ
spaced [] = []
spaced (w ∷ ws) = w ++ spaced_on ws

-- what `words` means: there is a word, joined they are the line again, and none holds a space
pub record Parts (line : List ℕ) (ws : List (List ℕ)) : Type 0 where
  pub some : 0 < length ws
  pub joined : spaced ws ≡ line
  pub apart : AllByRecursion (AllByRecursion (λ b. b ≢ 32)) ws
