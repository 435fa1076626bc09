-- Turns that are taken in under the lock of a frame.
use Rattle.std.proofs.Common.{◌≡◌, ℕ, ◌+◌, List, ◌++◌, Option, Some, None, refl, sym, ap, ◌∙◌, subst, arith}
use Rattle.std.specs.Prelude.{map, sum}
use Rattle.std.specs.Option.{option_or}
use Rattle.join_tables.specs.Rests.{IsOfTable}
use Rattle.join_tables.specs.declared.fates.Fate.{Fate}
use Rattle.join_tables.specs.declared.keeper.Remaining.{Remaining}
use Rattle.join_tables.specs.declared.keeper.Remaining.TheVariants.{More, All as AllTaken}
use Rattle.nested_runs.specs.Totals.{spans_of_row}
use Rattle.run_frame.specs.Meaning.{Meaning}
use Rattle.run_frame.specs.declared.run.InnerRow.{InnerRow}
use Rattle.table_runs.specs.DoneTurns.{HasSame, IsNoTurn}
use Rattle.table_runs.specs.RunKeys.{FrameKey}
use Rattle.table_runs.specs.Runs.{AreDoneIn}
use Rattle.table_runs.specs.Spans.{spans_done, spans_in, spans_inside}
use Rattle.table_runs.specs.inside.FateRuns.{AreAllowed}
use Rattle.table_runs.specs.declared.done_turns.DoneTurns.{DoneTurns}
use Rattle.table_frames.specs.inside.LockedRuns.{IsWhole, KeepsLast, LockedRunView, TakesTurns}
use Rattle.table_frames.specs.declared.locked_run.Taken.TheVariants.{Kept}

module _ {J V : Type 0} where
  -- turns with the same fates and runs have the same spans
  pub same_spans : (old new : DoneTurns J V) → HasSame old new → spans_done new ≡ spans_done old
  same_spans old new same =
      let fates : spans_in new.batch.fates ≡ spans_in old.batch.fates = ap (λ (fs : List (Fate V)). spans_in fs) same.fates in
      let inside : spans_inside new ≡ spans_inside old = ap (λ (rows : List (InnerRow J V)). sum (map spans_of_row rows)) same.inner in
      omega arith

  pub none_inside : (done : DoneTurns J V) → IsNoTurn done → spans_inside done ≡ 0
  none_inside done none = ap (λ (rows : List (InnerRow J V)). sum (map spans_of_row rows)) none.inner

  pub same_done : (meaning : Meaning J V) (frame : FrameKey J) (old new : DoneTurns J V) → HasSame old new → AreDoneIn meaning frame old → AreDoneIn meaning frame new
  same_done meaning frame old new same done = record {
    table = subst (IsOfTable frame.table) (sym same.table) done.table;
    allowed = subst (λ (fs : List (Fate V)). AreAllowed meaning frame.job fs new.inner.items) (sym same.fates) (subst (λ (rows : List (InnerRow J V)). AreAllowed meaning frame.job old.batch.fates rows) (sym same.inner) done.allowed);
  }

  -- the keeper has taken all in
  pub takes_kept : (meaning : Meaning J V) (fates : List (Fate V)) (old new : LockedRunView J V) (left : Remaining) → KeepsLast fates old new left → (left ≡ AllTaken → IsWhole meaning new) → TakesTurns meaning fates old new (Kept left)
  takes_kept meaning fates old new More keeps whole = keeps
  takes_kept meaning fates old new AllTaken keeps whole = (keeps, whole refl)
