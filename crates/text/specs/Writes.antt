-- Bytes written over a buffer: the rest stays. Assumes nothing.
use Rattle.std.specs.Prelude.{◌≡◌, ℕ, ◌+◌, List, ◌++◌, length, take, drop}

-- from a place on
abbrev pub put_at : List ℕ → ℕ → List ℕ → List ℕ
put_at buffer at bytes = take at buffer ++ (bytes ++ drop (at + length bytes) buffer)

-- at the front
abbrev pub over : List ℕ → List ℕ → List ℕ
over bytes buffer = bytes ++ drop (length bytes) buffer

-- bytes written at a place, and the place after them
pub record Puts (out out' : List ℕ) (at : ℕ) (part : List ℕ) (r : ℕ) : Type 0 where
  pub bytes : out' ≡ put_at out at part
  pub place : r ≡ at + length part
