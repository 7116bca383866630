-- What the proofs speak of
pub mod Words
-- The causes for which a schedule does not run
pub mod Unknown
pub mod Valid
-- What rows that follow a history tell
pub mod Rows
pub mod Records
pub mod Phases
pub mod Finals
-- Runs
pub mod Told
pub mod Made
pub mod Runs
