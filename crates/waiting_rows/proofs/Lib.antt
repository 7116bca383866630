-- The words of all
pub mod Words
-- Rows of parties, and how many pass a test
pub mod Slots
pub mod Passing
-- The calls that wait: what becomes of one, and who waits, in which order, and how many
pub mod Each
pub mod Finding
pub mod Single
pub mod Lists
pub mod Counted
pub mod Members
pub mod Added
-- The rows show who waits
pub mod Reaching
pub mod ShowsFreed
pub mod ShowsWaiting
pub mod ShowsHanded
pub mod Within
pub mod Gave
pub mod GivenOn
pub mod Sound
pub mod RowCounts
