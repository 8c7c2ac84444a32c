pub mod Faulting
pub mod Walking
pub mod Tight
