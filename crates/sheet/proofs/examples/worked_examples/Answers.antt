use Rattle.std.proofs.Common.{refl}
use Rattle.sheet.proofs.Worked.{worked}
use Rattle.sheet.proofs.examples.worked_examples.Goals as goal

pub returns : goal.returns
returns c = record { hold = worked; number = refl }
