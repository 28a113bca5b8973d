pub mod Severity
pub mod Texts
pub mod Order
pub mod code
