pub mod Crossing
pub mod Parked
