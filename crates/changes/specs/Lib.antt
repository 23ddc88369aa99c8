pub mod Telling
pub mod Promised
