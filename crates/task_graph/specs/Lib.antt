pub mod NetRows
pub mod Places
pub mod Net
pub mod Sources
pub mod NetBuilder
pub mod Chosen
pub mod inside
