mod Lists
mod Telling
mod Issuing
mod Adding
mod Starting
mod Ending
mod Passing
mod Keys
mod Finishing
mod Beginning
mod Counting
mod Looking
mod Closing
pub mod Crossing
