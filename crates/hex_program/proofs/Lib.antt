pub mod HasRoom
pub mod Numbers
