pub mod WordFolds
pub mod inside
