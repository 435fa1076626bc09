-- What an upgrade of a graph file comes to, how it ends and what stays the same.
use Rattle.std.specs.Prelude.{◌≡◌, ◌⊎◌, ℕ, List, Option, Some, None}
use Rattle.outside_io.specs.Sink.{Took}
use Rattle.graph_plans.specs.PlanRows.{PlanRows}
use Rattle.graph_file.specs.PlanText.{PlanText}
use Rattle.graph_writer.specs.WrittenPlan.{plan_text}
use Rattle.call_status.specs.declared.status.Status.{Status}
use Rattle.call_status.specs.Stopping.{StoppedBefore}
use Rattle.flow_run.specs.declared.conclusion.Conclusion.{Conclusion}
use Rattle.flow_run.specs.declared.conclusion.Conclusion.TheVariants as conclusion
use Rattle.flow_run.specs.Requests.{SourceTexts, IsHeld, file_limit}
use Rattle.flow_run.specs.PlanFiles.{StopsBeforePlan, IsAfterConclusion}

-- the text that is written for the plan for which the bytes held under the file's name stand; it stands for that plan
-- too
pub record IsUpgraded (held : SourceTexts) (file text : List ℕ) : Type 0 where
  pub bytes : List ℕ
  pub plan : PlanRows
  pub read : IsHeld held file file_limit bytes
  pub stands : PlanText bytes plan
  pub written : text ≡ plan_text plan
  pub same : PlanText text plan

-- there is such a text, and it is written
pub record EndsUpgraded (held : SourceTexts) (file : List ℕ) (status : Status) (concluded : Option Conclusion) : Type 0 where
  pub text : List ℕ
  pub only : concluded ≡ Some (conclusion.GraphFile text)
  pub upgraded : IsUpgraded held file text
  pub after : IsAfterConclusion status

-- How a call ends that is to upgrade a graph file: before the plan, for a reason that the status has, or after it.
abbrev pub UpgradeEnds : SourceTexts → List ℕ → Status → Option Conclusion → Type 0
UpgradeEnds held file status concluded = StoppedBefore (StopsBeforePlan held file) status (concluded ≡ None) ⊎ EndsUpgraded held file status concluded

-- The output took a graph file for the plan for which the bytes held under the file's name stand. So what is a run of
-- the one file, over some texts and with a limit, is a run of the other.
pub record TakesSamePlan (held : SourceTexts) (file : List ℕ) (before after : Option (List ℕ)) : Type 0 where
  pub bytes : List ℕ
  pub text : List ℕ
  pub plan : PlanRows
  pub read : IsHeld held file file_limit bytes
  pub stands : PlanText bytes plan
  pub took : Took before after text
  pub same : PlanText text plan
