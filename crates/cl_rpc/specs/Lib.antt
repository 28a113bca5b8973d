pub mod Classes
pub mod Messages
pub mod Replies
