-- A stand's fault as a session's. Assumes nothing.
use Rattle.stand.specs.declared.records.StandFault.{StandFault}
use Rattle.stand.specs.declared.records.StandFault.TheVariants.{Number as of_number, Bay as of_bay}
use Rattle.session.specs.declared.faults.SessionFault.{SessionFault}
use Rattle.session.specs.declared.faults.SessionFault.TheVariants.{Number, Bay}

abbrev pub carried_call : StandFault → SessionFault
carried_call (of_number e) = Number e
carried_call (of_bay e) = Bay e
