pub mod Books
pub mod inside
