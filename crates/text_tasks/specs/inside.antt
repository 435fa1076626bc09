-- Internal: what a job is made of, and what the private functions say to one another.
pub mod Works
pub mod Finding
pub mod Working
pub mod CellInputs
pub mod Gathering
pub mod WorkedPlans
pub mod OneByOne
