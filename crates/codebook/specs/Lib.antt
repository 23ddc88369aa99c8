pub mod Book
pub mod Code
