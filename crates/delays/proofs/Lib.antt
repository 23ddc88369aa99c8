pub mod Table
pub mod Search
pub mod Pairs
pub mod Laws
pub mod Determined
