pub mod Ins
