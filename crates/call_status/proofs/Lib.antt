mod NoteExamples
mod StatusExamples
pub mod Deliveries
pub mod Missing
