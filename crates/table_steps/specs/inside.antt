-- Internal: what the seats of a table know, the accounts between words, views and journal, and the kinds of step.
pub mod Duties
pub mod Accounts
pub mod Kinds
pub mod Halts
pub mod UnitKinds
pub mod CreditKinds
pub mod Opening
pub mod Parcels
pub mod Slots
pub mod SlotMarks
pub mod RestKinds
pub mod SlotKinds
pub mod SeatViews
pub mod ValueAccounts
pub mod TableSeats
