pub mod Answered
pub mod Resumed
pub mod Exactness
pub mod Sections
pub mod Settled
pub mod Called
