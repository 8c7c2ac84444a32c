pub mod Laws
pub mod Tight
pub mod BothSides
pub mod Numbered
