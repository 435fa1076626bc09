pub mod Parking
pub mod Yards
pub mod inside
