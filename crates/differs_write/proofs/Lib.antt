pub mod Cutting
pub mod Putting
pub mod Showing
pub mod Turning
pub mod Seeing
pub mod Answering
pub mod Tight
