pub mod DeferLemmas
pub mod FaultLemmas
pub mod FindLemmas
pub mod NetLemmas
pub mod OrderLemmas
pub mod PassLemmas
pub mod QueueLemmas
pub mod StepLemmas
pub mod TagLemmas
pub mod WaitLemmas
pub mod WalkLemmas
mod WorkedOrders
mod WorkedPipes
