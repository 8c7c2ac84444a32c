pub mod Converting
pub mod Whole
