pub mod Columns
pub mod Falls
pub mod Weights
pub mod Laws
pub mod Determined
