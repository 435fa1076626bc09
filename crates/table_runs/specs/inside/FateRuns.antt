-- Fates that a job allows, with the runs that were made in place of the work of some.
use Rattle.std.specs.Prelude.{◌≡◌, ℕ, List, [], ◌∷◌, ◌++◌, flat_map, map, Option, Some, None}
use Rattle.std.specs.List.{AllByRecursion}
use Rattle.join_tables.specs.declared.fates.Fate.{Fate}
use Rattle.join_tables.specs.declared.fates.Fate.TheVariants.{Ended, Faulted, Dropped, AllDropped}
use Rattle.run_frame.specs.Meaning.{Meaning}
use Rattle.run_frame.specs.declared.run.FrameRun.{FrameRun}
use Rattle.run_frame.specs.declared.run.InnerRow.{InnerRow, out-InnerRow}
use Rattle.table_runs.specs.AllowedFates.{IsAllowed}

-- what became of a release, with the run that its start made, if it made one
pub record FateWithRun (J V : Type 0) : Type 0 where
  pub fate : Fate V
  pub run : Option (FrameRun J V)

-- a run inside another, and the place there of the End or the Fault that it led to
pub record PlacedRun (J V : Type 0) : Type 0 where
  pub place : ℕ
  pub run : FrameRun J V

-- the place of the End or the Fault of a start
abbrev pub closing_place : {V : Type 0} → Fate V → ℕ
closing_place (Ended e) = e.place
closing_place (Faulted f) = f.place
closing_place _ = 0

abbrev pub run_at : {J V : Type 0} → ℕ → Option (FrameRun J V) → List (PlacedRun J V)
run_at n None = []
run_at n (Some run) = record { place = n; run = run } ∷ []

abbrev pub placed_run : {J V : Type 0} → FateWithRun J V → List (PlacedRun J V)
placed_run turn = run_at (closing_place turn.fate) turn.run

abbrev pub placed_runs : {J V : Type 0} → List (FateWithRun J V) → List (PlacedRun J V)
placed_runs turns = flat_map placed_run turns

-- the same of the rows of a run
abbrev pub in_row : {J V : Type 0} → InnerRow J V → PlacedRun J V
in_row {J} {V} row = record { place = (out-InnerRow J V row).place; run = (out-InnerRow J V row).run }

abbrev pub in_rows : {J V : Type 0} → List (InnerRow J V) → List (PlacedRun J V)
in_rows rows = map in_row rows

-- The job allows these fates, with the runs in these rows.
pub record AreAllowed {J V : Type 0} (meaning : Meaning J V) (job : J) (fates : List (Fate V)) (rows : List (InnerRow J V)) : Type 0 where
  pub turns : List (FateWithRun J V)
  pub fates_are : map (λ (turn : FateWithRun J V). turn.fate) turns ≡ fates
  pub rows_are : placed_runs turns ≡ in_rows rows
  pub each : AllByRecursion (λ (turn : FateWithRun J V). IsAllowed meaning job turn.fate turn.run) turns

-- The row was added of the run that was made in place of the work of a start, if one was.
pub record AddsRow {J V : Type 0} (fate : Fate V) (run : Option (FrameRun J V)) (before after : List (InnerRow J V)) : Type 0 where
  pub own : List (InnerRow J V)
  pub after_is : after ≡ before ++ own
  pub row_is : in_rows own ≡ run_at (closing_place fate) run
