pub mod Walks
pub mod Pitfalls
pub mod Findings
pub mod inside
