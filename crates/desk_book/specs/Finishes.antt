-- What finishing a desk comes to.
use Rattle.std.specs.Prelude.{◌≡◌, ℕ, ◌<◌, List, length, sum_by, Some, slice_get}
use Rattle.run_frame.specs.Meaning.{Meaning}
use Rattle.run_frame.specs.declared.run.FrameRun.{FrameRun}
use Rattle.desk_book.specs.declared.entry.Ask.{Ask}
use Rattle.desk_book.specs.declared.finish.DeskEnd.{DeskEnd}
use Rattle.desk_book.specs.declared.finish.DeskEnd.TheVariants.{Done, Open}
use Rattle.desk_book.specs.declared.desk_run.DeskRun.{DeskRun}
use Rattle.desk_book.specs.Histories.{asks_of, asks_by, turn_of, IsOver, IsDeskHistory, IsFirstUnended}
use Rattle.desk_book.specs.Passes.{PassState, seen, kept, LooksAgain}
use Rattle.desk_book.specs.Rounds.{RunsFit}
use Rattle.desk_book.specs.States.{DeskKey}
use Rattle.desk_book.specs.Desks.{ArePassesOf}

-- The history is right, each ask in it ended, and each has the rounds that it asked for, or the first ones where they
-- were cut.
pub record IsDeskRun {J V : Type 0} (meaning : Meaning J V) (callers : ℕ) (jobs : List J) (run : DeskRun J V) : Type 0 where
  pub history : IsDeskHistory (length jobs) callers run.history
  pub ended : (n : ℕ) → n < length (asks_of run.history) → IsOver (turn_of run.history n)
  pub run_count : length run.runs ≡ length (asks_of run.history)
  pub rounds : (n : ℕ) (ask : Ask) (runs : List (FrameRun J V)) → slice_get (asks_of run.history) n ≡ Some ask → slice_get run.runs n ≡ Some runs → RunsFit meaning jobs ask (turn_of run.history n) runs

-- It is the run of a desk; the asks of each caller are those that its pass has kept, in its order; and together they
-- are as many as the passes have kept.
pub record IsDone {J V : Type 0} (meaning : Meaning J V) (desk : DeskKey J) (passes : List PassState) (run : DeskRun J V) : Type 0 where
  pub is_run : IsDeskRun meaning desk.callers desk.jobs run
  pub kept_all : (c : ℕ) (pass : PassState) → slice_get passes c ≡ Some pass → asks_by c run.history ≡ kept pass
  pub together : length (asks_of run.history) ≡ sum_by (λ pass. length (kept pass)) passes

-- The pass has looked, and has seen that an ask is the first that has not ended.
abbrev pub SeesFirstUnended : ℕ → PassState → PassState → Type 0
SeesFirstUnended n old new = LooksAgain old new × IsFirstUnended (seen new) n

-- each of these has
abbrev pub AllSeeFirstUnended : ℕ → List PassState → List PassState → Type 0
AllSeeFirstUnended n old new = (c : ℕ) (before after : PassState) → slice_get old c ≡ Some before → slice_get new c ≡ Some after → SeesFirstUnended n before after

-- Done with the run of the desk; Open with the same desk, and with all passes, each of which has looked and has seen
-- which ask is the first that has not ended.
abbrev pub IsFinished : {J V : Type 0} → Meaning J V → DeskKey J → List PassState → DeskEnd J V → Type 0
IsFinished meaning desk passes (Done run) = IsDone meaning desk passes run
IsFinished meaning desk passes (Open back same n) = (back ≡ desk) × ArePassesOf desk same.items × AllSeeFirstUnended n passes same.items
