-- Commands that need the plan of a graph file and run nothing: why they stop before it, what they need, and how they
-- end.
use Rattle.std.specs.Prelude.{◌≡◌, ◌⊎◌, ◌≤◌, ℕ, List, length, Option, IsSomeAnd}
use Rattle.graph_plans.specs.PlanRows.{PlanRows}
use Rattle.graph_file.specs.PlanText.{PlanText}
use Rattle.call_status.specs.declared.status.Status.{Status}
use Rattle.call_status.specs.declared.status.Status.TheVariants.{Done, WriteFault, NoMemory}
use Rattle.call_status.specs.declared.stop.Stop.{Stop}
use Rattle.flow_run.specs.Requests.{SourceTexts, IsHeld, StopsAtName, StopsAtPlan, file_limit}

-- why the bytes held under the file's name stop the call
pub record StopsAtFile (held : SourceTexts) (file : List ℕ) (stop : Stop) : Type 0 where
  pub bytes : List ℕ
  pub read : IsHeld held file file_limit bytes
  pub stops : StopsAtPlan bytes stop

-- Why a call stops before it has the plan: at the graph file, or at what it holds. A graph without a source has a plan.
abbrev pub StopsBeforePlan : SourceTexts → List ℕ → Stop → Type 0
StopsBeforePlan held file stop = StopsAtName held file file_limit stop ⊎ StopsAtFile held file stop

-- With its conclusion the call is done; or the output failed, or memory ran out.
abbrev pub IsAfterConclusion : Status → Type 0
IsAfterConclusion status = (status ≡ Done) ⊎ (status ≡ WriteFault) ⊎ (status ≡ NoMemory)

-- What such a call needs is held: the file has no more bytes than may be read, and stands for a plan.
pub record HoldsPlan (text : List ℕ → Option (List ℕ)) (file : List ℕ) : Type 0 where
  pub plan : PlanRows
  pub graph : IsSomeAnd (text file) (λ bytes. (length bytes ≤ file_limit) × PlanText bytes plan)
