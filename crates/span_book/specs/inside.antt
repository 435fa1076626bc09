-- Internal: what the seats of a book know, and its rule.
pub mod SpanViews
