pub mod Limits
pub mod Lists
pub mod inside
