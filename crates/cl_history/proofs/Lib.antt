pub mod Times
pub mod Once
pub mod Accepting
pub mod Accepted
