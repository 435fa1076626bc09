pub mod Steps
pub mod Contents
pub mod Fields
pub mod OpRows
pub mod FileText
pub mod inside
