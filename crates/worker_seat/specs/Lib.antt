pub mod Seats
pub mod Crews
pub mod inside
