pub mod Tight
pub mod Filling
pub mod Holding
