pub mod Judging
pub mod Lawfulness
pub mod Worked
