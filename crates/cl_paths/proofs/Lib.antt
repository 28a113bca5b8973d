pub mod Escapes
pub mod Ways
pub mod Wholes
pub mod Naming
pub mod Shapes
