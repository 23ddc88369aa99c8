pub mod Laid
pub mod Decimal
pub mod Turns
pub mod Worked
pub mod Determined
pub mod Signed
pub mod Rows
