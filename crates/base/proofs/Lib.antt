pub mod Choice
pub mod Patched
pub mod Stored
pub mod Listed
pub mod Bytes
pub mod Sums
pub mod Tight
