pub mod TickMeaning
