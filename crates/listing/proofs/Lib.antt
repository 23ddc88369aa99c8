pub mod Frames
pub mod Told
pub mod Short
pub mod Listings
pub mod Laws
pub mod Determined
