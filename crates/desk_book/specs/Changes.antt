-- What the books of a desk do where an ask is taken, and where one ends.
use Rattle.std.specs.Prelude.{◌≡◌, ◌<◌, Bool, Some, slice_get}
use Rattle.desk_book.specs.declared.entry.DeskEntry.TheVariants.{Took, Ended}
use Rattle.desk_book.specs.declared.turn.Turn.TheVariants.{Open}
use Rattle.desk_book.specs.Histories.{asks_of, turn_of, IsFirstToTake}
use Rattle.desk_book.specs.Books.{BookHistory, with_entry, with_items}
use Rattle.desk_book.specs.Taking.{OpenAsk}

-- the first ask that may be taken is
pub record TakesFirst (old new : BookHistory) (taken : OpenAsk) : Type 0 where
  pub first : IsFirstToTake old.history taken.ask.number
  pub ask : slice_get (asks_of old.history) taken.ask.number ≡ Some taken.ask
  pub graph : taken.ask.graph < old.graphs
  pub register : taken.register ≡ old.register
  pub book : new ≡ with_items (with_entry old (Took taken.ask.number)) new.items

-- the ask that was taken, and had not ended, has
pub record EndsTaken (old : BookHistory) (taken : OpenAsk) (whole : Bool) (new : BookHistory) : Type 0 where
  pub was_open : turn_of old.history taken.ask.number ≡ Open
  pub ask : slice_get (asks_of old.history) taken.ask.number ≡ Some taken.ask
  pub book : new ≡ with_items (with_entry old (Ended taken.ask.number whole)) new.items
