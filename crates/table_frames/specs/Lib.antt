pub mod Frames
pub mod Holders
pub mod Steps
pub mod BacklogResults
pub mod inside
