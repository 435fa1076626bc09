pub mod ProfileText
pub mod Profiles
pub mod inside
