pub mod Ordering
pub mod Taking
pub mod Unique
pub mod Existing
pub mod Words
