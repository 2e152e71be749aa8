-- What a reader of words has left, and what it reads. Assumes nothing.
use Rattle.std.specs.Prelude.{ℕ, ◌+◌, ◌-◌, ◌^◌, min, List, [], ◌∷◌, Some, None, Ok, Err, Option, Result, ok_or, option_and_then}
use Rattle.text.specs.Words.{words}
use Rattle.text.specs.declared.words.Unreadable.{Unreadable}

-- the words not yet read, and the position of the first of them
pub record Unread : Type 0 where
  pub left : List (List ℕ)
  pub position : ℕ

-- the words of what is left of a line
abbrev pub words_in : Option (List ℕ) → List (List ℕ)
words_in None = []
words_in (Some line) = words line

-- the first of some words, and the others
abbrev pub first_of : List (List ℕ) → Option (List ℕ)
first_of [] = None
first_of (w ∷ ws) = Some w

abbrev pub first_word : Unread → Option (List ℕ)
first_word r = first_of r.left

abbrev pub other_words : List (List ℕ) → List (List ℕ)
other_words [] = []
other_words (w ∷ ws) = ws

-- the position after p, where a u32 counts that far
abbrev pub onward : ℕ → ℕ
onward p = min (p + 1) (2 ^ 32 - 1)

-- what is left after the next word, and the position after it
abbrev pub past_word : Unread → Unread
past_word r = record { left = other_words r.left; position = onward r.position }

abbrev pub unreadable : ℕ → Unreadable
unreadable p = record { position = p }

-- a word that is just one byte
abbrev pub letter_of : List ℕ → Option ℕ
letter_of [] = None
letter_of (b ∷ []) = Some b
letter_of (b ∷ c ∷ cs) = None

-- the next word, read by f: it may be missing or bad
abbrev pub word_by : (List ℕ → Option ℕ) → Unread → Result ℕ Unreadable
word_by f r = ok_or (option_and_then f (first_word r)) (unreadable r.position)

-- no word may be the next, at position p
abbrev pub ended : ℕ → Option (List ℕ) → Result Unit Unreadable
ended p None = Ok tt
ended p (Some w) = Err (unreadable p)

-- no word may be left
abbrev pub end_at : Unread → Result Unit Unreadable
end_at r = ended r.position (first_word r)
