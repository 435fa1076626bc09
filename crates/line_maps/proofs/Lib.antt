pub mod LineLengths
pub mod LineMapExamples
