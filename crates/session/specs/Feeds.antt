-- Input that comes in pieces: the lines in it, and the replies to all of them. Assumes nothing.
use Rattle.std.specs.Prelude.{◌≡◌, ℕ, ◌+◌, ◌<◌, ◌≤◌, cond, List, [], ◌∷◌, ◌++◌, length, take, Some, None, Ok, Option, Result, ◌==◌, ◌≢◌}
use Rattle.std.specs.List.{AllByRecursion}
use Rattle.plan.specs.declared.refusals.Refusal.{Refusal}
use Rattle.text.specs.Writes.{over}
use Rattle.session.specs.Sessions.{Answered, heard, next_line, reply_to}
use Rattle.session.specs.Turns.{State, view}
use Rattle.session.specs.declared.feeds.Feed.{Feed}
use Rattle.session.specs.declared.feeds.Progress.{Progress}

-- What is kept of a line that is not ended yet: its first 96 bytes, since a line of more than 80 is refused whatever
-- follows.
abbrev pub kept : Feed → List ℕ
kept f = f.begun

abbrev pub kept_most : ℕ
kept_most = 96

-- The lines that the bytes end, each at a line feed, after the bytes p of a line that is not ended yet; and what is
-- left then of a line that is not ended.
abbrev pub ended : List ℕ → List ℕ → List (List ℕ)
ended p [] = []
ended p (b ∷ bs) = cond (b == 10) (p ∷ ended [] bs) (ended (p ++ (b ∷ [])) bs)

abbrev pub unended : List ℕ → List ℕ → List ℕ
unended p [] = p
unended p (b ∷ bs) = cond (b == 10) (unended [] bs) (unended (p ++ (b ∷ [])) bs)

-- The replies to lines, one after the other, and where the session stands after them.
abbrev pub transcript : State → ℕ → List (List ℕ) → List ℕ
transcript s n [] = []
transcript s n (l ∷ ls) = reply_to s l (next_line n) ++ transcript (heard s l).0 (next_line n) ls

abbrev pub state_after : State → List (List ℕ) → State
state_after s [] = s
state_after s (l ∷ ls) = state_after (heard s l).0 ls

abbrev pub number_after : ℕ → List (List ℕ) → ℕ
number_after n [] = n
number_after n (l ∷ ls) = number_after (next_line n) ls

-- A line ended: it is answered, and no line is begun.
pub record LineEnded (f f' : Feed) (line buffer buffer' : List ℕ) (r : ℕ) : Type 0 where
  pub state : view f'.session ≡ (heard (view f.session) line).0
  pub number : f'.session.line ≡ next_line f.session.line
  pub left : kept f' ≡ []
  pub written : r ≡ length (reply_to (view f.session) line (next_line f.session.line))
  pub room : r ≤ 96
  pub bytes : buffer' ≡ over (reply_to (view f.session) line (next_line f.session.line)) buffer

-- A line ended by its last part, where the buffer may hold any reply; else nothing changes.
abbrev pub EndsLine : Feed → Feed → List ℕ → List ℕ → List ℕ → Option ℕ → Type 0
EndsLine f f' part buffer buffer' None = (length buffer < 96) × (f' ≡ f) × (buffer' ≡ buffer)
EndsLine f f' part buffer buffer' (Some r) = (96 ≤ length buffer) × LineEnded f f' (kept f ++ part) buffer buffer' r

-- A feed has read the first bytes of an input: it has answered the lines that they end, in their order, and written
-- the replies at the front of a buffer. It stops before the end of the input only where a reply has been written or
-- the buffer is short, and what is left of it may not hold another reply. How many bytes were read is part of the result.
pub record Fed (f f' : Feed) (input buffer buffer' : List ℕ) (r : Progress) : Type 0 where
  pub within : r.«read» ≤ length input
  pub stops : r.«read» < length input → length buffer < r.written + 96
  pub state : view f'.session ≡ state_after (view f.session) (ended (kept f) (take r.«read» input))
  pub number : f'.session.line ≡ number_after f.session.line (ended (kept f) (take r.«read» input))
  pub left : kept f' ≡ take kept_most (unended (kept f) (take r.«read» input))
  pub room : r.written ≤ length buffer
  pub written : r.written ≡ length (transcript (view f.session) f.session.line (ended (kept f) (take r.«read» input)))
  pub bytes : buffer' ≡ over (transcript (view f.session) f.session.line (ended (kept f) (take r.«read» input))) buffer

-- The end of the input: a line that was begun is answered as it stands; where none was, nothing changes.
abbrev pub Finished : Feed → Feed → List ℕ → List ℕ → List ℕ → Result ℕ (Refusal × ℕ) → Type 0
Finished f f' [] buffer buffer' r = (f' ≡ f) × (buffer' ≡ buffer) × (r ≡ Ok 0)
Finished f f' (b ∷ bs) buffer buffer' r = (kept f' ≡ []) × Answered (view f.session) (view f'.session) f.session.line f'.session.line (b ∷ bs) buffer buffer' r

-- What lines are: the input is its lines, each with a line feed behind it, and then what is left; no line holds one.
abbrev pub closed : List (List ℕ) → List ℕ
closed [] = []
closed (l ∷ ls) = l ++ (10 ∷ closed ls)

abbrev pub NoFeed : List ℕ → Type 0
NoFeed bs = AllByRecursion (λ b. b ≢ 10) bs

pub record Parted (input : List ℕ) (ls : List (List ℕ)) (rest : List ℕ) : Type 0 where
  pub joined : closed ls ++ rest ≡ input
  pub lines : AllByRecursion NoFeed ls
  pub last : NoFeed rest

abbrev pub LinesPart : Type 0
LinesPart = (input : List ℕ) → Parted input (ended [] input) (unended [] input)

-- The law of pieces: an input in two pieces, of which the second finds only what was kept of an unended line, is
-- answered as the whole input is, and leaves the session and what is kept alike.
pub record Joined (s : State) (n : ℕ) (p a b : List ℕ) : Type 0 where
  pub replies : transcript s n (ended p (a ++ b)) ≡ transcript s n (ended p a) ++ transcript (state_after s (ended p a)) (number_after n (ended p a)) (ended (take kept_most (unended p a)) b)
  pub state : state_after s (ended p (a ++ b)) ≡ state_after (state_after s (ended p a)) (ended (take kept_most (unended p a)) b)
  pub number : number_after n (ended p (a ++ b)) ≡ number_after (number_after n (ended p a)) (ended (take kept_most (unended p a)) b)
  pub left : take kept_most (unended p (a ++ b)) ≡ take kept_most (unended (take kept_most (unended p a)) b)

abbrev pub PiecesJoin : Type 0
PiecesJoin = (s : State) (n : ℕ) (p a b : List ℕ) → Joined s n p a b
