pub mod Holds
pub mod Steps
pub mod Moves
pub mod Entering
