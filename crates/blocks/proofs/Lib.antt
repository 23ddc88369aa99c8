pub mod Blocks
pub mod Walks
pub mod Voices
pub mod Frames
pub mod Passed
pub mod Made
pub mod Determined
