pub mod Lines
pub mod Forms
