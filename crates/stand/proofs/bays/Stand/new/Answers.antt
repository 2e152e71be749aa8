use Rattle.stand.proofs.Emptiness.{small_none}
use Rattle.stand.proofs.bays.Stand.new.Goals as goal

pub invariant_of-result : goal.invariant_of-result
invariant_of-result g c = small_none 32

pub returns-clause-small : goal.returns-clause-small
returns-clause-small g c = small_none 32
