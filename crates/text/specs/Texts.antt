-- What a text becomes. Assumes nothing.
use Rattle.std.specs.Prelude.{ℕ, ◌-◌, List, ◌++◌, length, take, replicate}

-- one text after another, of which what does not fit is left out
abbrev pub added : List ℕ → List ℕ → List ℕ
added text more = take 96 (text ++ more)

-- a text in its room of 96 bytes, with noughts behind it
abbrev pub filled : List ℕ → List ℕ
filled text = text ++ replicate (96 - length text) 0
