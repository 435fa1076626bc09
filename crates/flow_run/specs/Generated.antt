-- What a call for a generated graph runs, and what it writes.
use Rattle.std.specs.Prelude.{◌≡◌, ℕ, ◌+◌, ◌*◌, min, List, [], ◌∷◌, ◌++◌, length, codes, decimal}
use Rattle.std.specs.Option.{option_map_or}
use Rattle.journal_rules.specs.Counts.{starts}
use Rattle.run_frame.specs.LastEnds.{last_value}
use Rattle.run_frame.specs.NestedRule.{job_of, journal_of}
use Rattle.run_frame.specs.Runs.{values_of}
use Rattle.nested_runs.specs.Totals.{starts_inside}
use Rattle.text_ops.specs.Lines.{lines_of}
use Rattle.text_tasks.specs.declared.item.Item.{Item}
use Rattle.text_tasks.specs.declared.job.TextJob.{TextJob}
use Rattle.text_tasks.specs.declared.job.TextJob.TheVariants.{Graph}
use Rattle.text_tasks.specs.GraphWork.{first_work, greatest_limit}
use Rattle.text_tasks.specs.Items.{item_text}
use Rattle.text_tasks.specs.JobMeaning.{net_of}
use Rattle.run_laws.specs.TextAnswers.{IsPlanned}
use Rattle.graph_generator.specs.GeneratedPlan.{generated_plan}
use Rattle.graph_generator.specs.GeneratedText.{generated_text}
use Rattle.flow_run.specs.RoundTexts.{TextRun}

-- the job of the generated graph of so many layers, with the greatest limit
abbrev pub generated_job : ℕ → TextJob
generated_job layers = Graph (first_work (generated_plan layers) (generated_text layers ∷ []) greatest_limit)

-- It is this job, whose plan keeps the rules of plans.
pub record IsGeneratedJob (layers : ℕ) (job : TextJob) : Type 0 where
  pub same : job ≡ generated_job layers
  pub planned : IsPlanned job

-- the tally, the task behind the loop, and the pipeline, which come after ten tasks a layer
abbrev pub sum_task : ℕ → ℕ
sum_task layers = 10 * layers

abbrev pub done_task : ℕ → ℕ
done_task layers = 10 * layers + 4

abbrev pub pipe_task : ℕ → ℕ
pipe_task layers = 10 * layers + 6

-- how many lines the text has with which a task ended last; none where it hasn't ended
abbrev pub lines_of_last : TextRun → ℕ → ℕ
lines_of_last run t = option_map_or (λ (item : Item). length (lines_of (item_text item))) (last_value (journal_of run) (values_of run) t) 0

-- a line of some words and a number
abbrev pub number_line : List ℕ → ℕ → List ℕ
number_line words n = words ++ decimal n ++ codes "\n"

-- What is written of the run of so many layers: how many tasks it has, how many starts, and how many starts the runs
-- inside it have; and with how many lines the tally, the task behind the loop and the pipeline ended.
abbrev pub summary_text : ℕ → TextRun → List ℕ
summary_text layers run =
    number_line (codes "tasks ") (length (net_of (job_of run)).tasks)
    ++ number_line (codes "starts ") (starts (journal_of run))
    ++ number_line (codes "inner starts ") (min (starts_inside run) 18446744073709551615)
    ++ number_line (codes "sum lines ") (lines_of_last run (sum_task layers))
    ++ number_line (codes "done lines ") (lines_of_last run (done_task layers))
    ++ number_line (codes "pipe lines ") (lines_of_last run (pipe_task layers))

-- what is written of the run, if there is one
abbrev pub summaries_text : ℕ → List TextRun → List ℕ
summaries_text layers [] = []
summaries_text layers (run ∷ runs) = summary_text layers run
