pub mod Puts
pub mod Determined
