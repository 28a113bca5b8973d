mod Forks
mod Put
mod Row
mod Same
mod Noted
pub mod Search
mod Within
