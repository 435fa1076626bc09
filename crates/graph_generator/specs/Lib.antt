pub mod inside
pub mod Draws
pub mod GeneratedText
pub mod GeneratedPlan
