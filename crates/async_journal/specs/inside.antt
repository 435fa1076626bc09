-- Internal: at which index each task was started and ended.
pub mod Tables
