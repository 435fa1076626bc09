-- Internal: what private functions need of their arguments, and what they do with them.
pub mod RisingValues
