pub mod SumMeaning
pub mod Squares
