mod BadBlocks
mod BadItems
mod Firsts
mod Frames
mod Learning
mod Slots
