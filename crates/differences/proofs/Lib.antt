pub mod Within
pub mod HasRoom
