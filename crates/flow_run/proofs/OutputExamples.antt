-- The report, computed on small runs.
use Rattle.std.proofs.Common.{◌≡◌, ◌∙◌, ℕ, List, [], ◌∷◌, ◌++◌, Some, refl, ap, codes, false}
use Rattle.std.specs.Arc.{arc_value}
use Rattle.std.specs.Global.{Global}
use Rattle.std.specs.declared.sync.Arc.{Arc}
use Rattle.task_graph.specs.NetRows.{NetRows}
use Rattle.task_graph.specs.declared.net.Shape.TheVariants.{Plain}
use Rattle.task_graph.specs.declared.net.TaskRow.{TaskRow}
use Rattle.journal_rules.specs.declared.entry.Cause.TheVariants.{Source, Strong}
use Rattle.journal_rules.specs.declared.entry.Part.TheVariants.{From}
use Rattle.journal_rules.specs.declared.entry.Entry.{Entry}
use Rattle.journal_rules.specs.declared.entry.Entry.TheVariants.{Start, End}
use Rattle.text_tasks.specs.declared.item.Item.{Item}
use Rattle.text_tasks.specs.declared.item.Item.TheVariants.{Text}
use Rattle.graph_plans.specs.PlanRows.{PlanRows}
use Rattle.text_tasks.specs.GraphWork.{first_work}
use Rattle.text_tasks.specs.declared.job.TextJob.{TextJob}
use Rattle.text_tasks.specs.declared.job.TextJob.TheVariants.{Graph}
use Rattle.text_tasks.specs.JobMeaning.{job_plan, names_of, net_of, text_job}
use Rattle.run_frame.specs.declared.run.FrameRun.{FrameRun}
use Rattle.run_frame.specs.LastEnds.{ends_of, last_end}
use Rattle.run_frame.specs.NestedRule.{job_of, journal_of}
use Rattle.run_frame.specs.Runs.{values_of}
use Rattle.nested_runs.specs.Reasons.{run_reason}
use Rattle.nested_runs.specs.declared.reasons.Reason.TheVariants.{Stuck}
use Rattle.call_status.specs.Reasons.{reason_line}
use Rattle.report_laws.specs.Output.{report, report_of, outcome}

abbrev task : TaskRow
task = record { shape = Plain; takes = []; puts = [] }

-- a text that is read, and its lines counted
abbrev net : NetRows
net = record { tasks = task ∷ task ∷ []; edges = (record { from = 0; to = 1; start = false }) ∷ []; sems = [] }

abbrev names : List (List ℕ)
names = codes "text" ∷ codes "lines" ∷ []

abbrev journal : List Entry
journal = Start 0 Source [] ∷ End 0 (0 ∷ []) false ∷ Start 1 Strong (From 1 ∷ []) ∷ End 2 [] false ∷ []

-- Each task ends once, at the place after its start.
first_ends : ends_of journal 0 ≡ 1 ∷ []
first_ends = refl

second_ends : last_end journal 1 ≡ Some 3
second_ends = refl

-- Of a run in which nothing ended, the report has the last task's line alone.
nothing_ended : report names net [] [] ≡ codes "-- lines\n"
nothing_ended = refl

-- Of the two tasks the report tells the second alone, with its value.
counted : (read count : Arc Item Global) → arc_value count ≡ Text (codes "5\n") → report names net journal (record { place = 1; value = read } ∷ record { place = 3; value = count } ∷ []) ≡ codes "== lines\n5\n"
counted read count five = ap (λ item. outcome (codes "lines") (Some item) ++ []) five

-- Three tasks, of which the first leads to the second: the report tells of the second, which never ended, and then of
-- the third, with the last of its two values.
abbrev three : NetRows
three = record { tasks = task ∷ task ∷ task ∷ []; edges = (record { from = 0; to = 1; start = false }) ∷ []; sems = [] }

abbrev thrice_ended : List Entry
thrice_ended = Start 0 Source [] ∷ End 0 (0 ∷ []) false ∷ Start 2 Source [] ∷ End 2 [] false ∷ Start 2 Source [] ∷ End 4 [] false ∷ []

third_ended_last : (read early late : Arc Item Global) → arc_value late ≡ Text (codes "5\n")
    → report (codes "text" ∷ codes "lines" ∷ codes "loop" ∷ []) three thrice_ended (record { place = 1; value = read } ∷ record { place = 3; value = early } ∷ record { place = 5; value = late } ∷ []) ≡ codes "-- lines\n== loop\n5\n"
third_ended_last read early late five = ap (λ item. codes "-- lines\n" ++ (outcome (codes "loop") (Some item) ++ [])) five

-- Behind it stands why the run was cut short.
abbrev plan : PlanRows
plan = record { top = record { name = []; names = names; ops = []; sem_names = []; net = net }; modules = []; texts = [] }

stuck_behind_the_report : (run : FrameRun TextJob Item) → job_of run ≡ Graph (first_work plan [] 10) → journal_of run ≡ [] → values_of run ≡ []
    → run_reason text_job run ≡ Stuck (0 ∷ []) → report_of run ≡ codes "-- lines\n!! stuck text\n"
stuck_behind_the_report run its_job its_journal its_values stuck =
    ap (λ job. report (names_of job) (net_of job) (journal_of run) (values_of run) ++ reason_line (job_plan job) (run_reason text_job run)) its_job
    ∙ (ap (λ entries. report names net entries (values_of run) ++ reason_line (Some plan) (run_reason text_job run)) its_journal
    ∙ (ap (λ values. report names net [] values ++ reason_line (Some plan) (run_reason text_job run)) its_values
    ∙ ap (λ why. report names net [] [] ++ reason_line (Some plan) why) stuck))
