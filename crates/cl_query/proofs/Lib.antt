mod Found
pub mod Placing
