use Rattle.std.proofs.Common.{◌≡◌, ◌<◌, ℕ, None, length, slice_index_or}
use Rattle.run_frame.specs.NestedRule.{journal_of}
use Rattle.run_frame.specs.Runs.{values_of}
use Rattle.text_tasks.specs.PipeEnds.{token_end_before}
use Rattle.text_tasks.proofs.pipe_text.token_ends.Given as goal

abbrev pub invariant-loop-n : goal.invariant-loop-n
invariant-loop-n l = record {
  len : length l.ends.items ≡ l.places;
  each : (place : ℕ) → place < l.places → slice_index_or l.ends.items place None ≡ token_end_before l.pipes (journal_of l.run) (values_of l.run) l.n place;
}
