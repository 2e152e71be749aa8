pub mod Endings
pub mod Growth
pub mod Replies
pub mod Series
