pub mod Reasons
pub mod Rounds
pub mod Spreads
pub mod Totals
pub mod inside
