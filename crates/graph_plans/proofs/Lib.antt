pub mod EdgeLemmas
pub mod SourceLemmas
mod WorkedEdges
