pub mod CutLaws
pub mod NumeralLaws
pub mod WordLaws
pub mod TextLaws
pub mod WriteLaws
mod Examples
