pub mod Salvaging
pub mod Steps
pub mod Promised
