pub mod EndValues
mod WorkedReasons
mod WorkedRounds
