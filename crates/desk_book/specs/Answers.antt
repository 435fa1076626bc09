-- What taking an ask, or ending one, comes to, by what a caller has seen of the desk then.
use Rattle.std.specs.Prelude.{◌≡◌, ℕ, ◌<◌, Bool, List, [], ◌∷◌, ◌++◌, Some, slice_get}
use Rattle.atomic_table.specs.Seated.{TableId}
use Rattle.desk_book.specs.declared.entry.DeskEntry.{DeskEntry}
use Rattle.desk_book.specs.declared.entry.DeskEntry.TheVariants.{Took, Ended}
use Rattle.desk_book.specs.declared.turn.Turn.TheVariants.{Open}
use Rattle.desk_book.specs.declared.take_answer.TakeAnswer.{TakeAnswer}
use Rattle.desk_book.specs.declared.take_answer.TakeAnswer.TheVariants.{Taken, Busy, Empty}
use Rattle.desk_book.specs.Histories.{asks_of, turn_of, IsFirstToTake, IsOldestWaiting, NoneWaits, EachIsPassedOver}
use Rattle.desk_book.specs.Taking.{OpenAsk}
use Rattle.desk_book.specs.Passes.{GoesOn}

-- The last entry is that this ask was taken, which was the first that might be. The entries before it go on from these.
pub record HasTaken (front history : List DeskEntry) (taken : OpenAsk) : Type 0 where
  pub before : List DeskEntry
  pub longer : GoesOn front before
  pub last : history ≡ before ++ Took taken.ask.number ∷ []
  pub first : IsFirstToTake before taken.ask.number
  pub ask : slice_get (asks_of before) taken.ask.number ≡ Some taken.ask

-- the last entry is that this ask ended, which was taken
pub record HasEnded (history : List DeskEntry) (taken : OpenAsk) (whole : Bool) : Type 0 where
  pub before : List DeskEntry
  pub last : history ≡ before ++ Ended taken.ask.number whole ∷ []
  pub was_open : turn_of before taken.ask.number ≡ Open
  pub ask : slice_get (asks_of before) taken.ask.number ≡ Some taken.ask

-- What taking an ask of a desk with so many graphs comes to, by what was seen before and by the history now: the first
-- ask that may be taken is; or asks wait, of which this is the oldest, and each is passed over; or none waits.
abbrev pub IsTakeAnswer : TableId → ℕ → List DeskEntry → List DeskEntry → TakeAnswer → Type 0
IsTakeAnswer register graphs front history (Taken taken) = (taken.register ≡ register) × (taken.ask.graph < graphs) × HasTaken front history taken
IsTakeAnswer register graphs front history (Busy n) = IsOldestWaiting history n × EachIsPassedOver history
IsTakeAnswer register graphs front history Empty = NoneWaits history
