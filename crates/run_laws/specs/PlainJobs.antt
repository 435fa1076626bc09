-- Jobs of whose tasks each comes to one thing on what it finds, also by runs inside runs, and what such a job comes to:
-- a recursion over nets and over the depth of runs, without a journal and without an order of tasks.
use Rattle.std.specs.Prelude.{◌≡◌, ℕ, zero, suc, Bool, not, ◌&&◌, nat_le, List, map, length, Option, Some, None, is_none, unwrap_or, if◌then◌else◌}
use Rattle.std.specs.List.{list_any, last_or, range_with_len}
use Rattle.std.specs.Option.{option_map, option_and_then}
use Rattle.task_graph.specs.NetRows.{NetRows}
use Rattle.task_graph.specs.Net.{IsNet, out_edges}
use Rattle.journal_rules.specs.declared.entry.Why.{Why}
use Rattle.journal_rules.specs.SemaphoreRule.{takes, puts}
use Rattle.journal_rules.specs.OnceNets.{IsOnceNet}
use Rattle.join_words.specs.Ins.{InputValue}
use Rattle.run_frame.specs.declared.job.Answer.{Answer}
use Rattle.run_frame.specs.declared.job.Done.{Done}
use Rattle.run_frame.specs.declared.job.Done.TheVariants.{Value, Inner as InnerJob}
use Rattle.run_frame.specs.declared.run.FrameRun.{FrameRun}
use Rattle.run_frame.specs.LastEnds.{last_value}
use Rattle.run_frame.specs.Legal.{IsKept}
use Rattle.run_frame.specs.Meaning.{Meaning}
use Rattle.run_frame.specs.NestedRule.{job_of, journal_of}
use Rattle.run_frame.specs.Runs.{IsFine, values_of}
use Rattle.run_frame.specs.WorkRule.{gives_of}
use Rattle.text_tasks.specs.Sinks.{task_values}
use Rattle.run_laws.specs.OneThreadValue.{TaskEnd, OneAnswer, one_thread_value}
use Rattle.run_laws.specs.Starts.{rounds_in, tasks_started}

-- ---- the values of a net's tasks

-- the value of a task's last end
abbrev pub last_of : {V : Type 0} → List (TaskEnd V) → Option V
last_of ends = last_or None (map (λ end. end.value) ends)

-- what a task ends with by one thread, if it ends
abbrev pub plain_value : {V : Type 0} → NetRows → OneAnswer V → ℕ → Option V
plain_value net one t = last_of (one_thread_value net one (length net.tasks) t)

-- what each task ends with, by their numbers
abbrev pub plain_values : {V : Type 0} → NetRows → OneAnswer V → List (Option V)
plain_values net one = map (plain_value net one) (range_with_len 0 (length net.tasks))

-- whether some task faults
abbrev pub faults_somewhere : {V : Type 0} → NetRows → OneAnswer V → ℕ → Bool
faults_somewhere net one n = list_any (λ t. list_any (λ round. is_none (one t round)) (rounds_in net one n t)) (range_with_len 0 (length net.tasks))

-- whether none faults, and no more tasks start than the limit
abbrev pub runs_through : {V : Type 0} → NetRows → ℕ → OneAnswer V → Bool
runs_through net limit one = not (faults_somewhere net one (length net.tasks)) && nat_le (tasks_started net one (length net.tasks)) limit

-- ---- jobs

-- What the jobs of a type come to: what a task does on what it finds, or nothing where it faults; to what a run of a
-- job is gathered by the last values of its tasks, or nothing where gathering it faults; to what a job comes that is no
-- graph without conditions, as a pipeline, where that is known by itself; and the jobs that are plain, with runs inside
-- runs to a depth.
pub record PlainJobs (J V : Type 0) : Type 1 where
  pub does : J → ℕ → List (InputValue V) → Option (Done J V)
  pub gathered : J → List (Option V) → Option V
  pub alone : J → Option (Option V)
  pub is_plain : ℕ → J → Type 0

-- what a job comes to as a whole, if it runs through, by the one answer of each of its tasks
abbrev pub graph_comes_to : {J V : Type 0} → Meaning J V → PlainJobs J V → J → OneAnswer V → Option V
graph_comes_to meaning plain job one =
    if runs_through (meaning.net job) (meaning.limit job) one then plain.gathered job (plain_values (meaning.net job) one) else None

abbrev pub comes_to : {J V : Type 0} → Meaning J V → PlainJobs J V → J → OneAnswer V → Option V
comes_to meaning plain job one = unwrap_or (plain.alone job) (graph_comes_to meaning plain job one)

-- The end of a task that did this. A job in its place ends it with what that job comes to, and gives all its out-edges.
abbrev pub end_by : {J V : Type 0} → NetRows → ℕ → (J → Option V) → Done J V → Option (TaskEnd V)
end_by net t inside (Value v answer) = Some (record { value = v; gives = gives_of (out_edges net t) answer })
end_by net t inside (InnerJob job) = option_map (λ v. record { value = v; gives = out_edges net t }) (inside job)

-- the one answer of each task of a job, where a job in a task's place comes to this
abbrev pub answer_by : {J V : Type 0} → Meaning J V → PlainJobs J V → (J → Option V) → J → OneAnswer V
answer_by meaning plain inside job t found = option_and_then (end_by (meaning.net job) t inside) (plain.does job t found)

-- The one answer of each task of a job, as far as so many runs inside runs decide.
abbrev pub plain_answer : {J V : Type 0} → Meaning J V → PlainJobs J V → ℕ → J → OneAnswer V
plain_answer meaning plain zero = answer_by meaning plain (λ inner. None)
plain_answer meaning plain (suc d) = answer_by meaning plain (λ inner. comes_to meaning plain inner (plain_answer meaning plain d inner))

-- ---- the laws of such jobs

-- a job that a task may answer is what the task does, and it is plain to a lesser depth
pub record IsInside {J V : Type 0} (plain : PlainJobs J V) (d : ℕ) (job : J) (t : ℕ) (found : List (InputValue V)) (inner : J) : Type 0 where
  pub does : plain.does job t found ≡ Some (InnerJob inner)
  pub below : ℕ
  pub less : d ≡ suc below
  pub such : plain.is_plain below inner

-- a plain job that is a graph without conditions
pub record IsGraphJob {J V : Type 0} (plain : PlainJobs J V) (d : ℕ) (job : J) : Type 0 where
  pub such : plain.is_plain d job
  pub graph : plain.alone job ≡ None

-- a run comes to a value, or to nothing where it isn't fine or gathering it faults
pub record LeadsTo {J V : Type 0} (meaning : Meaning J V) (run : FrameRun J V) (result : Option V) : Type 0 where
  pub value : (v : V) → IsFine (journal_of run) → meaning.gathers (job_of run) run v → result ≡ Some v
  pub short : ¬ IsFine (journal_of run) → result ≡ None
  pub fault : (why : Why) → IsFine (journal_of run) → meaning.gather_faults (job_of run) run why → result ≡ None

-- The meaning of jobs allows what these functions say, and nothing else. A plain job's net is well formed, without weak
-- edges and first tokens, and its tasks put just what they take.
pub record IsPlainly {J V : Type 0} (meaning : Meaning J V) (plain : PlainJobs J V) : Type 0 where
  pub net : (d : ℕ) (job : J) → IsGraphJob plain d job → IsNet (meaning.net job)
  pub once : (d : ℕ) (job : J) → IsGraphJob plain d job → IsOnceNet (meaning.net job)
  pub returns : (d : ℕ) (job : J) → IsGraphJob plain d job → (s t : ℕ) → takes (meaning.net job) s t ≡ puts (meaning.net job) s t
  pub value : (d : ℕ) (job : J) (t : ℕ) (found : List (InputValue V)) (v : V) (answer : Answer) → IsGraphJob plain d job → meaning.answers job t found (Value v answer)
      → plain.does job t found ≡ Some (Value v answer)
  pub fault : (d : ℕ) (job : J) (t : ℕ) (found : List (InputValue V)) (why : Why) → IsGraphJob plain d job → meaning.faults job t found why → plain.does job t found ≡ None
  pub inner : (d : ℕ) (job : J) (t : ℕ) (found : List (InputValue V)) (inside : J) → IsGraphJob plain d job → meaning.answers job t found (InnerJob inside)
      → IsInside plain d job t found inside
  pub gathers : (d : ℕ) (run : FrameRun J V) (v : V) → IsGraphJob plain d (job_of run) → meaning.gathers (job_of run) run v
      → plain.gathered (job_of run) (task_values (meaning.net (job_of run)) run) ≡ Some v
  pub gather_fault : (d : ℕ) (run : FrameRun J V) (why : Why) → IsGraphJob plain d (job_of run) → meaning.gather_faults (job_of run) run why
      → plain.gathered (job_of run) (task_values (meaning.net (job_of run)) run) ≡ None
  pub by_itself : (d : ℕ) (run : FrameRun J V) (result : Option V) → plain.is_plain d (job_of run) → plain.alone (job_of run) ≡ Some result → IsKept meaning run
      → LeadsTo meaning run result
