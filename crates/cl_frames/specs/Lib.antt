pub mod Adapters
pub mod Edges
pub mod Frames
pub mod Outside
pub mod Reading
pub mod Sessions
