pub mod Base
pub mod Derived
pub mod Storage
