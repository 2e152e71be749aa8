-- The refusals of sheets: cause, layer and place. Assumes nothing.
use Rattle.plan.specs.Refusals.{refuse}
use Rattle.plan.specs.declared.refusals.Layer.TheVariants.{Sheet, Memory}
use Rattle.plan.specs.declared.refusals.Refusal.{Refusal}
use Rattle.sheet.specs.declared.faults.SheetFault.{SheetFault}
use Rattle.sheet.specs.declared.faults.SheetFault.TheVariants.{NoHeader, OtherMark, OtherVersion, OtherKind, WrongLength, UnlawfulRow, ShortBuffer}

abbrev pub refused_sheet : SheetFault → Refusal
refused_sheet NoHeader = refuse 4 Sheet 0
refused_sheet OtherMark = refuse 5 Sheet 0
refused_sheet OtherVersion = refuse 6 Sheet 0
refused_sheet OtherKind = refuse 7 Sheet 0
refused_sheet WrongLength = refuse 8 Sheet 0
refused_sheet (UnlawfulRow i) = refuse 9 Sheet i
refused_sheet (ShortBuffer n) = refuse 13 Memory n
