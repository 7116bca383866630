pub mod Soundness
pub mod Walks
pub mod Exiting
pub mod Boxes
