pub mod InNumbers
pub mod Stopping
pub mod Opening
pub mod Taking
pub mod Answering
pub mod Cutting
pub mod Spoiling
pub mod Witnesses
