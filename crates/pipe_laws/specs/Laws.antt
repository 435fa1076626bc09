-- The laws of pipelines' runs.
use Rattle.std.specs.Prelude.{◌≡◌, ℕ, ◌+◌, ◌*◌, ◌<◌, Bool, true, List, length, Some, None, slice_get}
use Rattle.journal_rules.specs.declared.entry.Entry.{Entry}
use Rattle.journal_rules.specs.Counts.{starts}
use Rattle.journal_rules.specs.Entries.{EachAfter}
use Rattle.journal_rules.specs.ShapeLegal.{ShapeLegal}
use Rattle.run_frame.specs.declared.run.FrameRun.{FrameRun}
use Rattle.run_frame.specs.Meaning.{Meaning}
use Rattle.run_frame.specs.Runs.{IsFine, values_of}
use Rattle.run_frame.specs.NestedRule.{journal_of}
use Rattle.run_frame.specs.Legal.{CompleteRun}
use Rattle.pipe_lines.specs.PassOrder.{has_passed}
use Rattle.pipe_lines.specs.PipeNet.{pipe_net}
use Rattle.run_laws.specs.OneThreadValue.{OneAnswer}
use Rattle.text_tasks.specs.Cells.{Pipeline}
use Rattle.pipe_laws.specs.PipeRuns.{IsPipeRun}
use Rattle.pipe_laws.specs.Turns.{IsInOrder, StartsAlone, TakesTurns, tokens_started}

-- Each serial pipe starts the tokens in their order.
abbrev pub PipesKeepOrder : {J V : Type 0} → Meaning J V → FrameRun J V → Type 0
PipesKeepOrder {J} {V} meaning run =
    (pipeline : Pipeline V) (one : OneAnswer V) → IsPipeRun meaning run pipeline one
    → (p : ℕ) → slice_get pipeline.serials p ≡ Some true → IsInOrder pipeline (values_of run) p (journal_of run)

-- At each pipe the lines take turns with the places of the order.
abbrev pub LinesTakeTurns : {J V : Type 0} → Meaning J V → FrameRun J V → Type 0
LinesTakeTurns {J} {V} meaning run =
    (pipeline : Pipeline V) (one : OneAnswer V) → IsPipeRun meaning run pipeline one
    → (l p : ℕ) → l < pipeline.lines → p < length pipeline.serials → TakesTurns pipeline (values_of run) l p (journal_of run)

-- No token is left. Each serial pipe starts all of them in their order, and each pipe those and no others. There is a
-- start for each of them at each pipe, and one at the end.
pub record StartsAll {J V : Type 0} (run : FrameRun J V) (pipeline : Pipeline V) : Type 0 where
  pub none_left : pipeline.order.unmet ≡ None
  pub in_order : (p : ℕ) → slice_get pipeline.serials p ≡ Some true → tokens_started pipeline (values_of run) p (journal_of run) ≡ pipeline.order.passed
  pub each_pipe : (p k : ℕ) → p < length pipeline.serials → has_passed (tokens_started pipeline (values_of run) p (journal_of run)) k ≡ has_passed pipeline.order.passed k
  pub count : starts (journal_of run) ≡ length pipeline.order.passed * length pipeline.serials + 1

-- So it is in a complete run in which nothing was cut short.
abbrev pub PassAllPipes : {J V : Type 0} → Meaning J V → FrameRun J V → Type 0
PassAllPipes {J} {V} meaning run =
    (pipeline : Pipeline V) (one : OneAnswer V) → IsPipeRun meaning run pipeline one → CompleteRun meaning run → IsFine (journal_of run) → StartsAll run pipeline

-- In each shape-legal journal of a pipeline at most one start of a line is open.
abbrev pub LinesStartAlone : ℕ → List Bool → Type 0
LinesStartAlone lines serials =
    (limit : ℕ) (journal : List Entry) → ShapeLegal (pipe_net lines serials) limit journal → (l : ℕ) → l < lines → EachAfter (StartsAlone (length serials) l) journal
