-- The laws that jobs of static chunks keep.
use Rattle.std.specs.Prelude.{◌≡◌, ℕ, zero, suc, List, replicate, slice_get, IfSome}
use Rattle.std.proofs.Common.{sym, subst}
use Rattle.task_graph.specs.declared.net.Shape.TheVariants.{Plain}
use Rattle.task_graph.specs.declared.net.TaskRow.{TaskRow}
use Rattle.journal_rules.specs.declared.entry.Why.{Why}
use Rattle.join_words.specs.Ins.{InputValue}
use Rattle.run_frame.specs.declared.job.Answer.{Answer}
use Rattle.run_frame.specs.declared.job.Answer.TheVariants.{All}
use Rattle.run_frame.specs.declared.job.Done.{Done}
use Rattle.run_frame.specs.declared.job.Done.TheVariants.{Value, Inner as InnerJob}
use Rattle.run_frame.specs.declared.run.FrameRun.{FrameRun}
use Rattle.run_frame.specs.Meaning.{AnswerFits, DoneFits, FitsShape, IsOwnWhy}
use Rattle.nested_runs.specs.Spreads.{part_row}
use Rattle.grain_tasks.specs.ChunkWork.{ChunkWork, IsChunkWork, chunk_job}
use Rattle.grain_tasks.specs.Folds.{Folding}

part_fits : (J : Type 0) {V : Type 0} (parts t : ℕ) (v : V) (answer : Answer) → answer ≡ All → IfSome (slice_get (replicate parts part_row) t) (λ (row : TaskRow). DoneFits {J = J} row.shape (Value v answer))
part_fits J zero t v answer is = tt
part_fits J (suc n) zero v answer is = subst (FitsShape Plain) (sym is) tt
part_fits J (suc n) (suc t) v answer is = part_fits J n t v answer is

module _ {F V : Type 0} (folding : Folding F V) where
  pub chunk_answers_fit : (work : ChunkWork F) (task : ℕ) (found : List (InputValue V)) (done : Done (ChunkWork F) V) → IsChunkWork folding work
      → (chunk_job folding).answers work task found done → AnswerFits ((chunk_job folding).net work) task done
  chunk_answers_fit work task found (Value v answer) keeps is = part_fits (ChunkWork F) _ task v answer is.1
  chunk_answers_fit work task found (InnerJob job) keeps is = absurd is

  pub chunk_faults_own : (work : ChunkWork F) (task : ℕ) (found : List (InputValue V)) (why : Why) → IsChunkWork folding work → (chunk_job folding).faults work task found why → IsOwnWhy why
  chunk_faults_own work task found why keeps is = absurd is

  pub chunk_gather_faults_own : (work : ChunkWork F) (run : FrameRun (ChunkWork F) V) (why : Why) → IsChunkWork folding work → (chunk_job folding).gather_faults work run why → IsOwnWhy why
  chunk_gather_faults_own work run why keeps is = absurd is
