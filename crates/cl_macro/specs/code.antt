pub mod Giving
pub mod Gaining
pub mod Flat
pub mod Segments
