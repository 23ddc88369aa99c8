pub mod Rows
pub mod Keys
pub mod Ways
pub mod Laid
pub mod Histories
pub mod Laws
pub mod Determined
