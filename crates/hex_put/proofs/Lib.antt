pub mod Marking
pub mod Putting
pub mod Whole
pub mod Tight
