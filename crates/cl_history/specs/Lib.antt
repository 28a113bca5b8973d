pub mod Given
pub mod Refusals
pub mod History
pub mod Headers
pub mod Legal
pub mod Written
pub mod Once
pub mod Accepted
