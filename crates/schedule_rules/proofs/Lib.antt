pub mod Words
pub mod Facts
pub mod Found
pub mod Opened
pub mod GoesOn
pub mod Exclusion
pub mod Cases
pub mod Attempts
pub mod Steps
pub mod Finds
pub mod Leaves
pub mod Means
pub mod Held
pub mod Registered
pub mod Accepts
pub mod Grows
pub mod OneSuccess
mod OneTranscript
pub mod NotCyclic
pub mod WaitsToLock
pub mod Answered
mod Tests
pub mod Causes
mod Tried
mod Failing
pub mod Registrations
mod Opening
mod Published
mod Kinded
mod Values
pub mod Finishing
pub mod Counts
pub mod Turns
pub mod TurnRoom
pub mod NeverBusy
mod Settled
pub mod Steady
pub mod Told
