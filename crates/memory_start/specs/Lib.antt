pub mod Start
pub mod Plain
pub mod Internal
