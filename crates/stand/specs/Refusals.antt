-- The refusals of bays and of a stand's calls: cause, layer and place. Assumes nothing.
use Rattle.plan.specs.Refusals.{refuse, refused_number}
use Rattle.plan.specs.declared.refusals.Layer.TheVariants.{Bay as bay_layer}
use Rattle.plan.specs.declared.refusals.Refusal.{Refusal}
use Rattle.stand.specs.declared.records.BayFault.{BayFault}
use Rattle.stand.specs.declared.records.BayFault.TheVariants.{NoSuchBay, Busy, Empty, Decided}
use Rattle.stand.specs.declared.records.StandFault.{StandFault}
use Rattle.stand.specs.declared.records.StandFault.TheVariants.{Number, Bay}

-- The place is the bay.
abbrev pub refused_bay : BayFault → Refusal
refused_bay (NoSuchBay b) = refuse 1 bay_layer b
refused_bay (Busy b) = refuse 20 bay_layer b
refused_bay (Empty b) = refuse 21 bay_layer b
refused_bay (Decided b) = refuse 22 bay_layer b

abbrev pub refused_call : StandFault → Refusal
refused_call (Number e) = refused_number e
refused_call (Bay e) = refused_bay e
