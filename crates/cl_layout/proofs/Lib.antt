pub mod Existence
pub mod Filling
pub mod Numbers
pub mod Ranges
pub mod Steps
