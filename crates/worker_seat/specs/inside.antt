-- Internal: the runs of a crew and their numbers, and where a seat is.
pub mod Numbers
pub mod Runs
pub mod SeatPlaces
pub mod Works
pub mod Attendances
pub mod NewRuns
