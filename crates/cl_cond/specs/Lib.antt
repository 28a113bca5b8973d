pub mod Lines
pub mod Sections
pub mod Grouping
pub mod Words
pub mod Expressions
pub mod Values
pub mod Conditions
pub mod code
