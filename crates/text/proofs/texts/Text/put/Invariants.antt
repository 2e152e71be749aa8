use Rattle.std.proofs.Common.{◌≡◌, take}
use Rattle.text.specs.Texts.{added}
use Rattle.text.proofs.texts.Text.put.Given as goal

-- the bytes so far were added
abbrev pub invariant-loop-b : goal.invariant-loop-b
invariant-loop-b l = l.self ≡ added l.initial.self (take l.b-index l.front)
