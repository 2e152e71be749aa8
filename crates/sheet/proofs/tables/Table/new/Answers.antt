use Rattle.std.proofs.Common.{length, ap, arith}
use Rattle.std.proofs.lemmas.Int.{ints}
use Rattle.sheet.proofs.tables.Table.new.Goals as goal

pub invariant_of-result : goal.invariant_of-result
invariant_of-result c = record { few = omega (arith, c.new.ensures.len); sound = λ i h. absurd (omega (arith, ap length c.new.ensures.items)); floor = omega (arith, ints); roof = omega (arith, ints) }
