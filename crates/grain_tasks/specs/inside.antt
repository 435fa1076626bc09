-- Internal: what a run ended with; what the seats of a row know, and its rule.
pub mod Gathering
pub mod Views
pub mod Folding
