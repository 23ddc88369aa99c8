pub mod Keeping
pub mod Planning
pub mod Steps
