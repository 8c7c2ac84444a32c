pub mod Blank
pub mod FewFrames
pub mod FewItems
pub mod HasRoom
