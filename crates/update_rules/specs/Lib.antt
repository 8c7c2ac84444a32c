pub mod Delivery
pub mod Mirror
pub mod Updated
pub mod Serial
