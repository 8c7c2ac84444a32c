pub mod Taken
pub mod Internal
