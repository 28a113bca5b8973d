pub mod code
pub mod Headers
pub mod Maps
pub mod Resolving
pub mod Noting
