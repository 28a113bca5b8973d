pub mod Print
pub mod code
