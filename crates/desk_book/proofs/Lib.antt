mod Lists
pub mod Telling
mod Looking
mod Turning
mod TurnLaws
mod Issuing
mod Keeping
mod PassedOver
mod Running
mod Seeing
mod Beginning
mod Closing
mod Done
pub mod Crossing
