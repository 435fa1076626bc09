pub mod Samples
pub mod Gates
