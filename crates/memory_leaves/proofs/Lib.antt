pub mod Combined
pub mod Lengths
pub mod Tight
