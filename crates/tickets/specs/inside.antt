-- Internal: what the seats of a register know, and its rule.
pub mod Views
