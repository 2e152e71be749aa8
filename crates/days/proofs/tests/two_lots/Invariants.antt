use Rattle.std.proofs.Common.{◌≡◌, length}
use Rattle.days.proofs.tests.two_lots.Given as goal

abbrev pub invariant-loop-item : goal.invariant-loop-item
invariant-loop-item g l = length l.buffer ≡ 96

abbrev pub invariant-loop : goal.invariant-loop
invariant-loop g l = length l.buffer ≡ 96
