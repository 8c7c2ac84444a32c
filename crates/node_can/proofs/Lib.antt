pub mod Tight
mod Stepping
