pub mod Mixing
pub mod Promised
