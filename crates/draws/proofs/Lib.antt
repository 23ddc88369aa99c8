pub mod Sixteen
pub mod Drawing
pub mod Laws
pub mod Determined
