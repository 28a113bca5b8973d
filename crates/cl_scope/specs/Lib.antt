pub mod Known
pub mod Names
pub mod Trail
pub mod Steps
pub mod Sound
pub mod Items
pub mod Held
pub mod code
