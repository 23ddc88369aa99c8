pub mod Ranges
pub mod Answered
pub mod Determined
