pub mod Ascii
pub mod Decimal
pub mod Laid
pub mod Signed
