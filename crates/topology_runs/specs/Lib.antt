pub mod Teams
pub mod Told
pub mod inside
