-- What is known at each entry of a legal, steady journal of a net without weak edges.
use Rattle.std.proofs.Common.{◌≡◌, ◌⊎◌, ℕ, ◌<◌, cond, List, [], ◌∷◌, ◌++◌, length, Option, Some}
use Rattle.std.specs.Prelude.{◌==◌}
use Rattle.task_graph.specs.NetRows.{NetRows}
use Rattle.task_graph.specs.Net.{out_edges}
use Rattle.journal_rules.specs.declared.entry.Entry.{Entry}
use Rattle.journal_rules.specs.declared.entry.Entry.TheVariants.{Start, End, Fault, Drop}
use Rattle.journal_rules.specs.ReleaseRule.{ReleaseRule}
use Rattle.journal_rules.specs.ClosingRule.{ClosingRule}
use Rattle.journal_rules.specs.DataRule.{DataRule}
use Rattle.journal_rules.specs.Calm.{IsCalm}
use Rattle.join_words.specs.Ins.{InputValue}
use Rattle.run_frame.specs.declared.run.ValueRow.{ValueRow}
use Rattle.run_frame.specs.Runs.{value_at, found_ins}
use Rattle.run_frame.specs.WorkRule.{Work, work_at}
use Rattle.run_laws.specs.OneThreadValue.{TaskEnd, OneAnswer, tokens, source_of}
use Rattle.run_laws.specs.Ends.{gather, end_of}
use Rattle.run_laws.specs.Steady.{StartRule}
use Rattle.run_laws.proofs.Along.{Told}
use Rattle.run_laws.proofs.Phases.{Phase, Behind}

-- an End, with its task, its value and what its Start found
pub record EndAt {V : Type 0} (net : NetRows) (one : OneAnswer V) (values : List (ValueRow V)) (at : ℕ → Option ℕ) (b : List Entry) (start : ℕ) (gives : List ℕ) : Type 0 where
  pub task : ℕ
  pub of_task : at start ≡ Some task
  pub fit : (gives ≡ out_edges net task) ⊎ (gives ≡ [])
  pub v : V
  pub value : value_at values (length b) ≡ Some v
  pub work : Work V
  pub found : work_at values b start ≡ Some work
  pub answered : one work.task work.found ≡ Some (record { value = v; gives = gives })

abbrev pub EndsWell : {V : Type 0} → NetRows → OneAnswer V → List (ValueRow V) → (ℕ → Option ℕ) → List Entry → Entry → Type 0
EndsWell net one values at b (Start task cause ins) = Unit {0}
EndsWell net one values at b (End start gives inner) = EndAt net one values at b start gives
EndsWell net one values at b (Fault start why) = Unit {0}
EndsWell net one values at b (Drop task cause why) = Unit {0}

pub record StepAt {V : Type 0} (net : NetRows) (one : OneAnswer V) (values : List (ValueRow V)) (at : ℕ → Option ℕ) (b : List Entry) (x : Entry) : Type 0 where
  pub told : Told at (b ++ x ∷ [])
  pub behind : Behind b
  pub phases : (t : ℕ) → Phase at t b
  pub release : ReleaseRule net b x
  pub closing : ClosingRule b x
  pub start : StartRule b x
  pub calm : (e : ℕ) → e < length net.edges → IsCalm net e b
  pub data_rule : DataRule net b x
  pub well : EndsWell net one values at b x

-- what each Start of a task found
abbrev pub start_of : {V : Type 0} → List (ValueRow V) → ℕ → ℕ → Entry → List (List (InputValue V))
start_of values t n (Start task cause ins) = cond (task == t) (found_ins values ins ∷ []) []
start_of values t n (End start gives inner) = []
start_of values t n (Fault start why) = []
start_of values t n (Drop task cause why) = []

abbrev pub starts_in : {V : Type 0} → List (ValueRow V) → ℕ → List Entry → List (List (InputValue V))
starts_in values t b = gather (start_of values t) 0 b

abbrev pub ends_in : {V : Type 0} → List (ValueRow V) → (ℕ → Option ℕ) → ℕ → List Entry → List (TaskEnd V)
ends_in values at t b = gather (end_of values at t) 0 b

-- the tokens of an edge so far
abbrev pub tokens_in : {V : Type 0} → NetRows → List (ValueRow V) → (ℕ → Option ℕ) → ℕ → List Entry → List (InputValue V)
tokens_in net values at e b = tokens net e (ends_in values at (source_of net e) b)
