pub mod Cells
pub mod PipeRuns
pub mod Turns
pub mod Laws
pub mod TextPipes
