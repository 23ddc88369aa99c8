pub mod Written
pub mod Determined
