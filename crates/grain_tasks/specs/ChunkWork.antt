-- The jobs of static chunks.
use Rattle.std.specs.Prelude.{◌≡◌, ℕ, max, ◌<◌, ◌≤◌}
use Rattle.run_frame.specs.declared.job.Answer.TheVariants.{All}
use Rattle.run_frame.specs.declared.job.Done.{Done}
use Rattle.run_frame.specs.declared.job.Done.TheVariants.{Value, Inner as InnerJob}
use Rattle.run_frame.specs.declared.run.FrameRun.{FrameRun}
use Rattle.run_frame.specs.Legal.{IsKept}
use Rattle.run_frame.specs.Meaning.{Meaning}
use Rattle.run_frame.specs.NestedRule.{journal_of}
use Rattle.run_frame.specs.Runs.{IsFine}
use Rattle.nested_runs.specs.Spreads.{part_limit, spread_net}
use Rattle.grain_tasks.specs.declared.errors.GrainError.{GrainError}
use Rattle.grain_tasks.specs.declared.errors.GrainError.TheVariants.{ZeroGrain, TooMany, NoMemory}
use Rattle.grain_tasks.specs.Chunks.{chunk_at, chunk_count, chunk_fold}
use Rattle.grain_tasks.specs.Folds.{Folding, plain_fold}

-- a fold, how many of its indices are folded, and how many indices a chunk has
pub record ChunkWork (F : Type 0) : Type 0 where
  pub f : F
  pub count : ℕ
  pub grain : ℕ

abbrev pub chunk_work : {F : Type 0} → F → ℕ → ℕ → ChunkWork F
chunk_work f count grain = record { f = f; count = count; grain = grain }

-- how many tasks the job has
abbrev pub task_count : {F : Type 0} → ChunkWork F → ℕ
task_count work = chunk_count work.count work.grain

-- what holds of each such job
pub record IsChunkWork {F V : Type 0} (folding : Folding F V) (work : ChunkWork F) : Type 0 where
  pub some : 1 ≤ work.grain
  pub within : work.count ≤ folding.count work.f
  pub few : task_count work ≤ part_limit

-- A task answers the fold of its chunk.
abbrev pub ChunkAnswers : {F V : Type 0} → Folding F V → ChunkWork F → ℕ → Done (ChunkWork F) V → Type 0
ChunkAnswers folding work t (Value v answer) = (v ≡ chunk_fold folding work.f (chunk_at work.count work.grain t)) × (answer ≡ All)
ChunkAnswers folding work t (InnerJob job) = ⊥

-- A task for each chunk, without edges. None faults, and each run is gathered to the plain fold.
abbrev pub chunk_job : {F V : Type 0} → Folding F V → Meaning (ChunkWork F) V
chunk_job folding = record {
  net = λ work. spread_net (task_count work);
  limit = λ work. max (task_count work) 1;
  answers = λ work t found done. ChunkAnswers folding work t done;
  faults = λ work t found why. ⊥;
  gathers = λ work run v. v ≡ plain_fold folding work.f work.count;
  gather_faults = λ work run why. ⊥;
  follows = λ work run next. ⊥;
}

-- Nothing is cut short in a legal and complete run of such a job, so each can be gathered.
abbrev pub RunsAreFine : {F V : Type 0} → Folding F V → Type 0
RunsAreFine {F} {V} folding = (run : FrameRun (ChunkWork F) V) → IsKept (chunk_job folding) run → IsFine (journal_of run)

-- a job of so many indices, cut into chunks of so many, can be made
pub record TakesJob (count grain : ℕ) : Type 0 where
  pub some : 1 ≤ grain
  pub few : chunk_count count grain ≤ part_limit

-- Why such a job is refused: `ZeroGrain` exactly where chunks would have no index, `TooMany` exactly where there
-- would be more than 65,536 chunks.
abbrev pub RefusesJob : ℕ → ℕ → GrainError → Type 0
RefusesJob count grain ZeroGrain = grain ≡ 0
RefusesJob count grain (TooMany k) = (1 ≤ grain) × (k ≡ chunk_count count grain) × (part_limit < k)
RefusesJob count grain NoMemory = TakesJob count grain
