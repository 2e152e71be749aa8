use Rattle.text.proofs.NumeralLaws.{ReadsAs}
use Rattle.text.proofs.numerals.digits.Given as goal

abbrev pub invariant-loop-b : goal.invariant-loop-b
invariant-loop-b l = ReadsAs l.word l.b-index l.n
