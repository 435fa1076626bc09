pub mod Locks
pub mod inside
