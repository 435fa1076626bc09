-- What holds of the rounds of a desk whenever its lock is free.
use Rattle.std.specs.Prelude.{◌≡◌, ℕ, List, length, Some, slice_get}
use Rattle.run_frame.specs.Meaning.{Meaning}
use Rattle.run_frame.specs.declared.run.FrameRun.{FrameRun}
use Rattle.desk_book.specs.declared.entry.Ask.{Ask}
use Rattle.desk_book.specs.Histories.{asks_of, turn_of}
use Rattle.desk_book.specs.Books.{BookHistory}
use Rattle.desk_book.specs.Rounds.{RunsFit}

-- There is a job for each graph, and each ask has the rounds that fit how far it is.
pub record KeepsRuns {J V : Type 0} (meaning : Meaning J V) (book : BookHistory) (jobs : List J) (runs : List (List (FrameRun J V))) : Type 0 where
  pub graph_count : book.graphs ≡ length jobs
  pub count : length runs ≡ length (asks_of book.history)
  pub rounds : (n : ℕ) (ask : Ask) (some : List (FrameRun J V)) → slice_get (asks_of book.history) n ≡ Some ask → slice_get runs n ≡ Some some → RunsFit meaning jobs ask (turn_of book.history n) some
