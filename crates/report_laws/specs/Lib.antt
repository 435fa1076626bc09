pub mod Output
pub mod PlainReport
pub mod SmallPlans
