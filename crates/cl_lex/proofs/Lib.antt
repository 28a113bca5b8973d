mod Characters
mod Classes
mod Decided
pub mod Exists
mod HeldFacts
mod Joining
mod Lexed
pub mod Longest
mod Machine
pub mod Order
mod Pass
mod PlainText
mod Quotes
mod Singles
pub mod Unique
mod Words
