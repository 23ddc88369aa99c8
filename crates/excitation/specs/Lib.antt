pub mod Register
pub mod Excitation
pub mod Outcome
pub mod Promised
