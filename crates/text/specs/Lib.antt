pub mod Cuts
pub mod Numerals
pub mod Words
pub mod Readers
pub mod Commands
pub mod Texts
pub mod TextLemmas
pub mod Writes
