pub mod Lists
pub mod Putting
pub mod Indexed
pub mod InPlace
