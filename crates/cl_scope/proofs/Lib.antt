pub mod Naming
pub mod Scoping
pub mod SoFar
pub mod Begun
pub mod Before
pub mod Resume
pub mod Holding
pub mod Keeping
