-- The refusals of a session: cause, layer and place. Assumes nothing.
use Rattle.plan.specs.Refusals.{refuse, refused_number}
use Rattle.plan.specs.declared.refusals.Layer.TheVariants.{Text, Memory}
use Rattle.plan.specs.declared.refusals.Refusal.{Refusal}
use Rattle.stand.specs.Refusals.{refused_bay}
use Rattle.session.specs.declared.faults.SessionFault.{SessionFault}
use Rattle.session.specs.declared.faults.SessionFault.TheVariants.{Number, Bay, NoReading, ShortBuffer, NoPlan, OutOfTurn}

abbrev pub refused_line : SessionFault → Refusal
refused_line (Number e) = refused_number e
refused_line (Bay e) = refused_bay e
refused_line (NoReading u) = refuse 12 Text u.position
refused_line ShortBuffer = refuse 13 Memory 96
refused_line NoPlan = refuse 23 Text 1
refused_line OutOfTurn = refuse 24 Text 1
