pub mod Machine
pub mod Scans
