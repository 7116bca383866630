-- The words of all
pub mod Words
-- Places of lists, phases, records of lockers
pub mod Places
pub mod Known
pub mod Lockers
pub mod Registering
-- What a move at one cell leaves alone
pub mod Moved
pub mod Waiting
pub mod Guards
pub mod Drafts
pub mod Opening
-- The moves on guards
pub mod Hand
pub mod Leaving
pub mod Giving
pub mod Calling
-- The ends of sections
pub mod Innermost
pub mod Ending
pub mod Finalizing
-- An attempt
pub mod Attempts
pub mod Answered
pub mod Parking
pub mod Asked
pub mod Seeking
pub mod Took
pub mod Arms
pub mod Trying
-- A loan
pub mod Lending
-- The exit, and the end
pub mod Exiting
pub mod Closing
-- Histories
pub mod Histories
pub mod Setting
pub mod Looking
pub mod Starting
pub mod Judged
pub mod Settling
pub mod Barring
pub mod Admitting
pub mod Sharing
pub mod Meeting
