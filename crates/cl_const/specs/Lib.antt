pub mod Numbers
pub mod Operators
pub mod Integers
pub mod Utf8
pub mod Characters
