pub mod Leaves
pub mod Levels
pub mod Pairs
