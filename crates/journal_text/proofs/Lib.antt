pub mod FieldLemmas
pub mod ItemLemmas
mod JournalTextExamples
pub mod LineLemmas
pub mod ListLemmas
pub mod NumberLemmas
pub mod Steps
pub mod TextLemmas
pub mod WordLemmas
