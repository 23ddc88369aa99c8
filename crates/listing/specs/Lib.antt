pub mod Listing
pub mod Promised
