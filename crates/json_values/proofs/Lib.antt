mod Reading
pub mod Views
