pub mod Digits
pub mod Constants
pub mod Utf8
pub mod Types
pub mod Sequences
