pub mod Tally
pub mod Book
pub mod Entering
pub mod Steps
pub mod History
pub mod Promised
