pub mod ManyPasses
pub mod TickCrossing
mod TwoPasses
