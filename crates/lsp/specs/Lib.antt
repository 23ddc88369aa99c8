pub mod Table
pub mod Order
pub mod Average
