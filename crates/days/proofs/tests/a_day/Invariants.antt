use Rattle.std.proofs.Common.{◌≡◌, length}
use Rattle.days.proofs.tests.a_day.Given as goal

abbrev pub invariant-loop-line : goal.invariant-loop-line
invariant-loop-line g l = length l.buffer ≡ 100
