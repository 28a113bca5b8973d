pub mod Words
pub mod Serving
pub mod First
pub mod Sessions
