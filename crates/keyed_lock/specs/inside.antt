-- Internal: what the functions of this crate say to one another.
pub mod Rule
