pub mod Outcome
pub mod Values
