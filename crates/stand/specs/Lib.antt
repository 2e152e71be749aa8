pub mod Refusals
pub mod Bays
pub mod Calls
pub mod Histories
