-- Internal: which entries cut a run short.
pub mod Cuts
