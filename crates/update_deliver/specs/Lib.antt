pub mod Taken
pub mod Delivering
pub mod Internal
