pub mod Plans
pub mod Carried
pub mod Refusals
pub mod Turns
pub mod Replies
pub mod Sessions
pub mod Feeds
pub mod PlansLemmas
