pub mod Determined
pub mod Negated
pub mod Told
