pub mod CountingLemmas
pub mod LineLemmas
pub mod ProfileLemmas
