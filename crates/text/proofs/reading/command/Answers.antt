use Rattle.std.proofs.Common.{arith}
use Rattle.std.proofs.lemmas.Grind.{common_steps}
use Rattle.text.proofs.reading.command.Goals as goal
use Rattle.text.proofs.reading.command.Goals.{in-L+in_ok-decimal-in-L+in_ok-decimal-in-L-2+in_ok-decimal-in-L-3+in_ok-whole-in-L+in_ok-whole-in-L-2, in-S+in_ok-whole-in-S+in_ok-whole-in-S-2, in-C+in_ok-size-in-C+in_ok-number-in-C, in-O+in_ok-whole-in-O, in-R+in_ok-whole-in-R, in-X+in_ok-whole-in-X, in-I+in_ok-whole-in-I+in_ok-whole-in-I-2}

-- at the end each command is looked at by itself
pub returns-in_err-end : goal.returns-in_err-end
returns-in_err-end c =
    elim c.match-from.branch [ in-L+in_ok-decimal-in-L+in_ok-decimal-in-L-2+in_ok-decimal-in-L-3+in_ok-whole-in-L+in_ok-whole-in-L-2 w ↦ grind (arith, common_steps) | in-S+in_ok-whole-in-S+in_ok-whole-in-S-2 w ↦ grind (arith, common_steps) | in-C+in_ok-size-in-C+in_ok-number-in-C w ↦ grind (arith, common_steps) | in-O+in_ok-whole-in-O w ↦ grind (arith, common_steps) | in-R+in_ok-whole-in-R w ↦ grind (arith, common_steps) | in-X+in_ok-whole-in-X w ↦ grind (arith, common_steps) | in-I+in_ok-whole-in-I+in_ok-whole-in-I-2 w ↦ grind (arith, common_steps) ]

pub returns : goal.returns
returns c =
    elim c.match-from.branch [ in-L+in_ok-decimal-in-L+in_ok-decimal-in-L-2+in_ok-decimal-in-L-3+in_ok-whole-in-L+in_ok-whole-in-L-2 w ↦ grind (arith, common_steps) | in-S+in_ok-whole-in-S+in_ok-whole-in-S-2 w ↦ grind (arith, common_steps) | in-C+in_ok-size-in-C+in_ok-number-in-C w ↦ grind (arith, common_steps) | in-O+in_ok-whole-in-O w ↦ grind (arith, common_steps) | in-R+in_ok-whole-in-R w ↦ grind (arith, common_steps) | in-X+in_ok-whole-in-X w ↦ grind (arith, common_steps) | in-I+in_ok-whole-in-I+in_ok-whole-in-I-2 w ↦ grind (arith, common_steps) ]
