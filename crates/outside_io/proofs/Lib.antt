mod Names
pub mod Pieces
pub mod Streams
