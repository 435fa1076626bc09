pub mod inside
pub mod Machine
pub mod Ready
