pub mod Differing
pub mod Whole
