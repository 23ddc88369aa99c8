pub mod Listed
pub mod Fields
pub mod Laws
pub mod Determined
