pub mod Emptiness
pub mod Splits
pub mod Living
