pub mod Roles
pub mod Mentions
