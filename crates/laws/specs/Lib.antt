pub mod Table
pub mod Lowest
pub mod Tabulate
pub mod Total
pub mod Place
pub mod Turns
pub mod Bytes
pub mod Unless
