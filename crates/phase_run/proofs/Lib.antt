pub mod KnownBytes
pub mod Sizes
pub mod Handed
pub mod Called
pub mod Telling
pub mod TellingRuns
