-- What the profile of a plan without conditions has of each task, worked out by one thread.
use Rattle.std.specs.Prelude.{ℕ, List, length, map, count_by, is_some}
use Rattle.std.specs.List.{range_with_len}
use Rattle.command_line.specs.Requests.{AskedRounds}
use Rattle.profile_table.specs.declared.row.TableRow.{TableRow}
use Rattle.text_tasks.specs.declared.job.TextJob.{TextJob}
use Rattle.text_tasks.specs.JobMeaning.{names_of, net_of}
use Rattle.run_laws.specs.PlainJobs.{plain_value}
use Rattle.report_laws.specs.PlainReport.{text_answer}
use Rattle.flow_run.specs.PlainRounds.{plain_jobs}

-- in how many rounds with these jobs a task has a value
abbrev pub times_valued : List TextJob → ℕ → ℕ
times_valued jobs t = count_by (λ job. is_some (plain_value (net_of job) (text_answer job) t)) jobs

-- the row of a task: a start and an end in each of them, and no fault and no drop
abbrev pub plain_row : List TextJob → ℕ → TableRow
plain_row jobs t = record { starts = times_valued jobs t; ends = times_valued jobs t; faults = 0; drops = 0 }

-- the rows of the rounds that are asked for, one for each task
abbrev pub plain_rows : AskedRounds → TextJob → List TableRow
plain_rows asked job = map (plain_row (plain_jobs asked job)) (range_with_len 0 (length (names_of job)))
