pub mod Sums
pub mod Rounded
pub mod Laws
pub mod Determined
