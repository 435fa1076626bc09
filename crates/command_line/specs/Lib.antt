pub mod Numbers
pub mod Requests
pub mod Rounds
pub mod Asked
