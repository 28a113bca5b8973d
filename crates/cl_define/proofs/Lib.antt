pub mod Marks
pub mod ReadParams
pub mod ReadLines
pub mod Told
pub mod Distinct
pub mod Alike
