pub mod Tables
pub mod Gains
pub mod Nearest
