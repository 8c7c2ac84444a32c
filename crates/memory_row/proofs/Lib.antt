pub mod Laws
pub mod Tight
pub mod Pinned
