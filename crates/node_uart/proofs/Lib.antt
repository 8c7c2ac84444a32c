pub mod Tight
pub mod Listening
