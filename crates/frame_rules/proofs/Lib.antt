pub mod Done
pub mod Numbered
pub mod Fields
pub mod Wrapped
pub mod Pinned
pub mod Tight
