pub mod Frames
pub mod Reading
pub mod Served
pub mod Going
pub mod InTime
pub mod Complete
pub mod Worded
