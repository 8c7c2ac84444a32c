pub mod Walking
pub mod Emission
pub mod Answers
pub mod Tight
pub mod Translating
