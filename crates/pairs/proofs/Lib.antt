pub mod Pairs
pub mod Whole
pub mod Laws
pub mod Determined
