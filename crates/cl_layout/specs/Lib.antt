pub mod Constants
pub mod Layouts
pub mod Ordered
pub mod Places
pub mod Ranges
pub mod Tables
pub mod Worths
