pub mod Memory
pub mod Spared
