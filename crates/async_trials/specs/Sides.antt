-- The callers and the workers of a book, each a side.
use Rattle.std.specs.Prelude.{All}
use Rattle.async_tasks.specs.AsyncBooks.{AsyncBookState, ArePassesOf, IsSeatOf}
use Rattle.async_trials.specs.declared.crowds.Side.{Side}
use Rattle.async_trials.specs.declared.crowds.Side.TheVariants.{Callers, Workers}

-- a side is one of this book
abbrev pub IsSideOf : AsyncBookState → Side → Type 0
IsSideOf book (Callers passes) = ArePassesOf book passes.items
IsSideOf book (Workers seats) = All (IsSeatOf book) seats.items
