pub mod Refusals
pub mod Blocks
pub mod Walk
pub mod Frames
pub mod Made
