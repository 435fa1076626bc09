pub mod Concatenation
pub mod WorkedChunks
