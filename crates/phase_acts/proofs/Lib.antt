-- What the proofs speak of
pub mod Words
-- What rows that stand for something tell of the holds of a cell
pub mod Exclusive
-- From one move to the next, and to the longer history
pub mod Stepping
-- What stands open after an attempt
pub mod Trying
-- Legal lines
pub mod Lines
-- The acts on guards
pub mod Holding
pub mod Formed
pub mod Ending
pub mod Exiting
pub mod Releasing
pub mod Looking
pub mod Downgrading
pub mod Cloning
-- Attempts
pub mod Calling
pub mod Settling
pub mod Tried
pub mod TriedLegal
pub mod Attempting
pub mod Causes
pub mod Performing
-- Loans
pub mod Lending
