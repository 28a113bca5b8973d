pub mod Tokens
pub mod Extents
pub mod Items
pub mod Whole
pub mod code
