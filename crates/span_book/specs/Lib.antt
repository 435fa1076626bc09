pub mod SpanBooks
pub mod inside
