pub mod Kept
pub mod Tidied
pub mod Tight
