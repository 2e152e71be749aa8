use Rattle.std.proofs.Common.{arith}
use Rattle.text.proofs.NumeralLaws.{room}
use Rattle.text.proofs.numerals.digits.Goals as goal

pub overflow_mul-n : goal.overflow_mul-n
overflow_mul-n c = omega (arith, room c.loop-b.invariant.below (omega arith))

pub overflow_add-n : goal.overflow_add-n
overflow_add-n c = omega (arith, room c.loop-b.invariant.below (omega arith))
