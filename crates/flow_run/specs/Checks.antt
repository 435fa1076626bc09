-- What a check of a graph asks for, how it ends and what is written of it.
use Rattle.std.specs.Prelude.{◌≡◌, ◌⊎◌, ℕ, List, [], ◌∷◌, ◌++◌, length, sum_by, codes, decimal, slice_index_or, Option, Some, None}
use Rattle.std.specs.List.{flat_map}
use Rattle.graph_plans.specs.PlanRows.{GraphRows, PlanRows, graphs_of}
use Rattle.graph_file.specs.PlanText.{PlanText}
use Rattle.pitfall_check.specs.declared.finding.Finding.{Finding}
use Rattle.pitfall_check.specs.declared.finding.Finding.TheVariants.{NoSource, Mixed, ManyConditions, StrongCycle, NeverReached}
use Rattle.pitfall_check.specs.Findings.{AreFindings}
use Rattle.call_status.specs.declared.status.Status.{Status}
use Rattle.call_status.specs.Stopping.{StoppedBefore}
use Rattle.flow_run.specs.declared.conclusion.Conclusion.{Conclusion}
use Rattle.flow_run.specs.declared.conclusion.Conclusion.TheVariants as conclusion
use Rattle.flow_run.specs.declared.conclusion.GraphFindings.{GraphFindings}
use Rattle.flow_run.specs.Requests.{SourceTexts, IsHeld, file_limit}
use Rattle.flow_run.specs.PlanFiles.{StopsBeforePlan, IsAfterConclusion}

-- the findings on a graph, with its name and those of its tasks
pub record AreFindingsOn (graph : GraphRows) (found : GraphFindings) : Type 0 where
  pub name : found.name ≡ graph.name
  pub names : found.names ≡ graph.names
  pub findings : AreFindings graph.net found.findings

-- those on each of these graphs, in their order
abbrev pub AreFindingsOnAll : List GraphRows → List GraphFindings → Type 0
AreFindingsOnAll [] [] = Unit {0}
AreFindingsOnAll [] (on ∷ found) = ⊥
AreFindingsOnAll (graph ∷ graphs) [] = ⊥
AreFindingsOnAll (graph ∷ graphs) (on ∷ found) = AreFindingsOn graph on × AreFindingsOnAll graphs found

-- the findings on the top graph and the modules of the plan for which the bytes held under the file's name stand
pub record IsChecked (held : SourceTexts) (file : List ℕ) (found : List GraphFindings) : Type 0 where
  pub bytes : List ℕ
  pub plan : PlanRows
  pub read : IsHeld held file file_limit bytes
  pub stands : PlanText bytes plan
  pub findings : AreFindingsOnAll (graphs_of plan) found

-- there are findings, and they are reported
pub record EndsChecked (held : SourceTexts) (file : List ℕ) (status : Status) (concluded : Option Conclusion) : Type 0 where
  pub found : List GraphFindings
  pub only : concluded ≡ Some (conclusion.Findings found)
  pub checked : IsChecked held file found
  pub after : IsAfterConclusion status

-- How a call ends that is to check a graph: before the plan, for a reason that the status has, or with its findings, of
-- which the status says nothing.
abbrev pub CheckEnds : SourceTexts → List ℕ → Status → Option Conclusion → Type 0
CheckEnds held file status concluded = StoppedBefore (StopsBeforePlan held file) status (concluded ≡ None) ⊎ EndsChecked held file status concluded

-- how a line on a graph begins: on a module with its name
abbrev pub line_start : List ℕ → List ℕ
line_start [] = []
line_start (byte ∷ rest) = byte ∷ rest ++ codes ": "

-- the line that says this of a graph, and of a task of it, with its end
abbrev pub graph_line : GraphFindings → List ℕ → List ℕ → List ℕ
graph_line on what task = line_start on.name ++ what ++ task ++ codes "\n"

-- the same of the task of a number
abbrev pub task_line : GraphFindings → List ℕ → ℕ → List ℕ
task_line on what t = graph_line on what (slice_index_or on.names t [])

-- the line of a finding
abbrev pub finding_line : GraphFindings → Finding → List ℕ
finding_line on NoSource = graph_line on (codes "no source") []
finding_line on (Mixed t) = task_line on (codes "mixed ") t
finding_line on (ManyConditions t) = task_line on (codes "many conditions ") t
finding_line on (StrongCycle t) = task_line on (codes "strong cycle ") t
finding_line on (NeverReached t) = task_line on (codes "never reached ") t

-- the lines of the findings on a graph
abbrev pub graph_lines : GraphFindings → List ℕ
graph_lines on = flat_map (finding_line on) on.findings

-- how many findings there are on these graphs
abbrev pub finding_count : List GraphFindings → ℕ
finding_count found = sum_by (λ (on : GraphFindings). length on.findings) found

-- the last line, which says how many findings there are
abbrev pub findings_count_line : ℕ → List ℕ
findings_count_line count = codes "findings " ++ decimal count ++ codes "\n"

-- what is written of the findings on some graphs: a line for each, graph by graph, and their number
abbrev pub findings_text : List GraphFindings → List ℕ
findings_text found = flat_map graph_lines found ++ findings_count_line (finding_count found)
