pub mod JournalText
pub mod inside
