pub mod Words
pub mod Bodies
pub mod Constraints
pub mod Definitions
pub mod Sameness
pub mod Predefined
pub mod code
