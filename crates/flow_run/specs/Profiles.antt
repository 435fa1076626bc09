-- The profile of some rounds, and what is written of it.
use Rattle.std.specs.Prelude.{◌≡◌, ℕ, List, [], ◌∷◌, ◌++◌, length, map, min, sum_by, Option, None}
use Rattle.graph_plans.specs.PlanRows.{PlanRows}
use Rattle.run_frame.specs.NestedRule.{job_of, journal_of}
use Rattle.nested_runs.specs.Totals.{all_spans}
use Rattle.call_status.specs.Reasons.{reason_line}
use Rattle.profile_table.specs.Profiles.{profile_of}
use Rattle.profile_table.specs.ProfileText.{profile_text}
use Rattle.text_tasks.specs.JobMeaning.{job_plan}
use Rattle.flow_run.specs.declared.conclusion.GraphProfile.{GraphProfile}
use Rattle.flow_run.specs.RoundTexts.{TextRun, last_reason}

-- the plan of the graph that was run
abbrev pub plan_run : List TextRun → Option PlanRows
plan_run [] = None
plan_run (first ∷ runs) = job_plan (job_of first)

-- how many spans these runs have, with those of the runs inside them; at the greatest u64 it stays there
abbrev pub spans_of_all : List TextRun → ℕ
spans_of_all runs = min (sum_by all_spans runs) 18446744073709551615

-- The profile of these rounds of a graph whose tasks have these names.
pub record IsProfileOf (names : List (List ℕ)) (runs : List TextRun) (counts : GraphProfile) : Type 0 where
  pub names_are : counts.names ≡ names
  pub table : counts.table ≡ profile_of (length names) (map journal_of runs)
  pub spans : counts.spans ≡ spans_of_all runs
  pub last_line : counts.last_line ≡ reason_line (plan_run runs) (last_reason runs)

-- what is written of it: its table, and why the last round was cut short, if it was
abbrev pub graph_profile_text : GraphProfile → List ℕ
graph_profile_text counts = profile_text counts.table.rows counts.names counts.spans ++ counts.last_line
