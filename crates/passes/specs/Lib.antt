pub mod Counted
pub mod Pass
