pub mod Table
pub mod Right
pub mod Starting
