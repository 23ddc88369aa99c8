pub mod First
pub mod Most
pub mod Keeps
pub mod Returns
pub mod Plans
pub mod Determined
