pub mod Spelling
pub mod Feeding
pub mod Pieces
