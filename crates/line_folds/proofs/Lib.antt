pub mod LinesBetween
pub mod MarkLemmas
pub mod WordFoldLemmas
pub mod LineExamples
