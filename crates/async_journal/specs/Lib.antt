pub mod RunNets
pub mod RunJournals
pub mod WholeJournals
pub mod inside
