pub mod Faults
pub mod Memory
pub mod Words
pub mod Stops
pub mod Statuses
pub mod Runs
pub mod Steps
pub mod Telling
