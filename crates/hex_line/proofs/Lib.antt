mod Table
mod Choosing
mod Pairs
mod Ending
mod Splitting
mod Formed
mod Found
pub mod Lines
pub mod Tight
