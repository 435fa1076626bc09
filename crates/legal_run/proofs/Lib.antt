pub mod Refusing
pub mod Marking
pub mod Walking
pub mod CalmEdges
