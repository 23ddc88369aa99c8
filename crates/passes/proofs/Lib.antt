pub mod Counting
pub mod Hearings
pub mod Passes
pub mod Through
pub mod Determined
