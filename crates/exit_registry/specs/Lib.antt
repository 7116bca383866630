pub mod Registry
pub mod Chains
pub mod Turns
pub mod Logs
pub mod Exits
