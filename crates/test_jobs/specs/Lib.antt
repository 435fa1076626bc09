pub mod NumberMeaning
