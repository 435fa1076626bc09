-- The laws of runs without conditions, and of the journals of some nets.
use Rattle.std.specs.Prelude.{◌≡◌, ◌↔◌, ℕ, ◌+◌, ◌<◌, ◌≤◌, Bool, true, false, List, Some, length, slice_get}
use Rattle.task_graph.specs.NetRows.{NetRows}
use Rattle.task_graph.specs.Net.{IsNet, is_weak}
use Rattle.journal_rules.specs.declared.entry.Entry.{Entry}
use Rattle.journal_rules.specs.Entries.{EachAfter}
use Rattle.journal_rules.specs.ShapeLegal.{ShapeLegal}
use Rattle.journal_rules.specs.SemaphoreRule.{takes, puts}
use Rattle.journal_rules.specs.OnceNets.{IsOnceNet}
use Rattle.run_frame.specs.declared.run.FrameRun.{FrameRun, out-FrameRun}
use Rattle.run_frame.specs.Meaning.{Meaning}
use Rattle.run_frame.specs.Runs.{IsFine}
use Rattle.run_frame.specs.NestedRule.{job_of, journal_of}
use Rattle.run_frame.specs.Legal.{Legal, CompleteRun}
use Rattle.run_laws.specs.OneThreadValue.{TaskEnd, OneAnswer, one_thread_value}
use Rattle.run_laws.specs.Starts.{HasFault, tasks_started}
use Rattle.run_laws.specs.Prefixes.{IsPrefixOf}
use Rattle.run_laws.specs.Ends.{ends}
use Rattle.run_laws.specs.Steady.{Steady}
use Rattle.run_laws.specs.OneAnswer.{AllowsOne}
use Rattle.run_laws.specs.Rings.{IsRinged}
use Rattle.pipe_lines.specs.PipeNet.{cell, pipe_net}
use Rattle.run_laws.specs.Cycles.{IsCycle, GoesRound, is_one_of}

-- ---- steady runs

-- A legal, steady run of a well-formed net without weak edges, whose job's meaning allows this one answer.
pub record IsSteadyRun {J V : Type 0} (meaning : Meaning J V) (run : FrameRun J V) (one : OneAnswer V) : Type 0 where
  pub net : IsNet (meaning.net (job_of run))
  pub strong : (e : ℕ) → is_weak (meaning.net (job_of run)) e ≡ false
  pub one_answer : AllowsOne meaning (job_of run) one
  pub legal : Legal meaning run
  pub steady : Steady (meaning.net (job_of run)) (journal_of run)

-- the ends of a task in a run
abbrev pub run_ends : {J V : Type 0} → FrameRun J V → ℕ → List (TaskEnd V)
run_ends {J} {V} run t = ends (out-FrameRun J V run).values (journal_of run) t

-- The k-th end of each task is element k of its one-thread values, for any n at which they have it.
abbrev pub HasOneThreadValues : {J V : Type 0} → Meaning J V → FrameRun J V → Type 0
HasOneThreadValues {J} {V} meaning run =
    (one : OneAnswer V) → IsSteadyRun meaning run one
    → (n t k : ℕ) (u w : TaskEnd V) → slice_get (one_thread_value (meaning.net (job_of run)) one n t) k ≡ Some u → slice_get (run_ends run t) k ≡ Some w → w ≡ u

-- Where the run is complete and fine, they have no others, for any n.
abbrev pub HasNoOtherValues : {J V : Type 0} → Meaning J V → FrameRun J V → Type 0
HasNoOtherValues {J} {V} meaning run =
    (one : OneAnswer V) → IsSteadyRun meaning run one → CompleteRun meaning run → IsFine (journal_of run)
    → (n t : ℕ) → t < length (meaning.net (job_of run)).tasks → IsPrefixOf (one_thread_value (meaning.net (job_of run)) one n t) (run_ends run t)

-- A larger n only makes the lists longer.
abbrev pub ValuesGrow : Type 0 → Type 0
ValuesGrow V = (net : NetRows) (one : OneAnswer V) (n more t : ℕ) → IsPrefixOf (one_thread_value net one n t) (one_thread_value net one (more + n) t)

-- ---- graphs without conditions

-- A legal and complete run of a well-formed net without weak edges and first tokens, each task of which puts just
-- what it takes; its job's meaning allows this one answer.
pub record IsGraphRun {J V : Type 0} (meaning : Meaning J V) (run : FrameRun J V) (one : OneAnswer V) : Type 0 where
  pub net : IsNet (meaning.net (job_of run))
  pub once : IsOnceNet (meaning.net (job_of run))
  pub returns : (s t : ℕ) → takes (meaning.net (job_of run)) s t ≡ puts (meaning.net (job_of run)) s t
  pub one_answer : AllowsOne meaning (job_of run) one
  pub legal : Legal meaning run
  pub complete : CompleteRun meaning run

-- The one-thread values have no fault, and no more tasks start than the limit. As many steps as there are tasks
-- decide both.
pub record RunsThrough {V : Type 0} (net : NetRows) (limit : ℕ) (one : OneAnswer V) : Type 0 where
  pub no_fault : ¬ HasFault net one (length net.tasks)
  pub few : tasks_started net one (length net.tasks) ≤ limit

-- The run is fine exactly where the one-thread values run through, and then these are its ends.
pub record IsDecided {J V : Type 0} (meaning : Meaning J V) (run : FrameRun J V) (one : OneAnswer V) : Type 0 where
  pub fine : IsFine (journal_of run) ↔ RunsThrough (meaning.net (job_of run)) (meaning.limit (job_of run)) one
  pub values : IsFine (journal_of run) → (t : ℕ) → t < length (meaning.net (job_of run)).tasks → run_ends run t ≡ one_thread_value (meaning.net (job_of run)) one (length (meaning.net (job_of run)).tasks) t

-- ---- steady nets

-- Each shape-legal journal of the net is steady.
abbrev pub KeepsSteady : NetRows → Type 0
KeepsSteady net = (limit : ℕ) (journal : List Entry) → ShapeLegal net limit journal → Steady net journal

-- In each shape-legal journal of a net of rings the Starts and Drops of each ring go round.
abbrev pub RingsGoRound : NetRows → Type 0
RingsGoRound net = (limit n : ℕ) (cell : ℕ → ℕ) (among : ℕ → Bool) (journal : List Entry) → IsRinged net → IsCycle net n cell among → ShapeLegal net limit journal → EachAfter (GoesRound n cell among) journal

-- In a journal the Starts and Drops of each line go round by its pipes, and those of each serial pipe by the lines.
pub record IsInTurn (lines : ℕ) (serials : List Bool) (journal : List Entry) : Type 0 where
  pub each_line : (l : ℕ) → l < lines → EachAfter (GoesRound (length serials) (cell (length serials) l) (is_one_of (length serials) (cell (length serials) l))) journal
  pub each_pipe : (p : ℕ) → slice_get serials p ≡ Some true → EachAfter (GoesRound lines (λ l. cell (length serials) l p) (is_one_of lines (λ l. cell (length serials) l p))) journal

-- So it is in each shape-legal journal of the net of lines and pipes.
abbrev pub PipesGoRound : ℕ → List Bool → Type 0
PipesGoRound lines serials = (limit : ℕ) (journal : List Entry) → 1 ≤ lines → 1 ≤ length serials → ShapeLegal (pipe_net lines serials) limit journal → IsInTurn lines serials journal
