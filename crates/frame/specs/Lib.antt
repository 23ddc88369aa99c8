pub mod Places
pub mod Parity
pub mod Correction
pub mod Frame
pub mod Answers
pub mod Steps
