pub mod Entries
pub mod Uart
pub mod Samples
pub mod Starting
