pub mod Tight
mod Judging
mod Returning
