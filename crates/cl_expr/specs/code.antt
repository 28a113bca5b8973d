pub mod Looks
pub mod Parses
pub mod Paths
pub mod Table
