pub mod Mentioning
