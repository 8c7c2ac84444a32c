pub mod Items
pub mod Frames
pub mod Plain
pub mod Faults
pub mod Reading
pub mod Translation
pub mod Internal
