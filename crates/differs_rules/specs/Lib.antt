pub mod Keeping
pub mod Differences
pub mod Writing
pub mod Turns
pub mod Pairs
pub mod Examples
pub mod Internal
