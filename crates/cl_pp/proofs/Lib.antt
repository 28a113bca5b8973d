mod Deciding
mod Straying
mod Standing
mod Branching
mod Lying
mod Withins
pub mod Digits
mod Files
mod Adding
mod Shapes
mod Going
mod Events
mod Replaces
mod Naming
mod Arriving
mod Shelving
mod Opening
mod Reading
mod Passing
mod Placing
mod Order
mod Ordering
mod Needing
mod Telling
pub mod Resuming
mod Waiting
pub mod Agreeing
pub mod Unique
mod Existing
pub mod Found
mod Seeing
