pub mod Putting
pub mod Emitting
pub mod Fitting
pub mod Tight
