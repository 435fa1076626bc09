-- Calls for generated graphs, on both sides of each line.
use Rattle.std.proofs.Common.{◌≡◌, List, [], ◌∷◌, length, None, Some, inl, inr, refl, ap, codes, arith}
use Rattle.std.specs.Fmt.{digits}
use Rattle.std.specs.Option.{option_map_or}
use Rattle.std.proofs.lemmas.Bool.{false≢true}
use Rattle.call_status.specs.declared.status.Status.TheVariants.{BadWords, Done, NoMemory}
use Rattle.command_line.specs.Requests.{generate as generate_asked, once}
use Rattle.journal_rules.specs.Counts.{starts}
use Rattle.run_frame.specs.LastEnds.{last_value}
use Rattle.run_frame.specs.NestedRule.{job_of, journal_of}
use Rattle.run_frame.specs.Runs.{values_of}
use Rattle.nested_runs.specs.Rounds.{AreAllRounds}
use Rattle.nested_runs.specs.Totals.{starts_inside}
use Rattle.nested_runs.specs.declared.reasons.Reason.{Reason}
use Rattle.nested_runs.specs.declared.reasons.Reason.TheVariants.{Fine, Fault, Limit, Stuck}
use Rattle.text_ops.specs.Lines.{lines_of}
use Rattle.text_tasks.specs.declared.item.Item.{Item}
use Rattle.text_tasks.specs.declared.item.Item.TheVariants.{Text}
use Rattle.text_tasks.specs.declared.job.TextJob.{TextJob}
use Rattle.text_tasks.specs.Items.{item_text}
use Rattle.text_tasks.specs.JobMeaning.{limit_of, net_of, text_job}
use Rattle.flow_run.specs.Answers.{GenerateEnds, IsAfterRun, runs_text}
use Rattle.flow_run.specs.Generated.{done_task, generated_job, lines_of_last, number_line, pipe_task, sum_task, summaries_text, summary_text}
use Rattle.flow_run.specs.RoundTexts.{TextRun, round_rule}

-- ---- what is run and written

greatest_limit_of_a_generated_graph : limit_of (generated_job 3) ≡ 1000000
greatest_limit_of_a_generated_graph = refl

tasks_behind_three_layers : (sum_task 3 ≡ 30) × (done_task 3 ≡ 34) × (pipe_task 3 ≡ 36)
tasks_behind_three_layers = (refl, refl, refl)

line_with_a_number : number_line (codes "tasks ") 17 ≡ codes "tasks 17\n"
unfolding digits
line_with_a_number = refl

nothing_of_no_run : summaries_text 3 [] ≡ []
nothing_of_no_run = refl

summary_is_written : (run : TextRun) → runs_text (Some (generate_asked 3 4)) (run ∷ []) ≡ summary_text 3 run
summary_is_written run = refl

module _ (run : TextRun) where
  lines_of_a_value : last_value (journal_of run) (values_of run) 3 ≡ Some (Text (codes "a\nb\n")) → lines_of_last run 3 ≡ 2
  lines_of_a_value is = ap (λ value. option_map_or (λ (item : Item). length (lines_of (item_text item))) value 0) is

  lines_of_no_value : last_value (journal_of run) (values_of run) 3 ≡ None → lines_of_last run 3 ≡ 0
  lines_of_no_value is = ap (λ value. option_map_or (λ (item : Item). length (lines_of (item_text item))) value 0) is

  -- Each number stands in its line.
  lines_of_a_summary : length (net_of (job_of run)).tasks ≡ 17 → starts (journal_of run) ≡ 395 → starts_inside run ≡ 601 → lines_of_last run 10 ≡ 200 → lines_of_last run 14 ≡ 7 → lines_of_last run 16 ≡ 150
      → summary_text 1 run ≡ codes "tasks 17\nstarts 395\ninner starts 601\nsum lines 200\ndone lines 7\npipe lines 150\n"
  unfolding digits
  lines_of_a_summary tasks first inside sum done pipe = rw (tasks, first, inside, sum, done, pipe) refl

-- ---- how the call ends

without_memory : GenerateEnds 1 NoMemory []
without_memory = inl (refl, refl)

never_bad_words : (why : Reason) → ¬ IsAfterRun why BadWords
never_bad_words Fine (inl told) = absurd (cc)
never_bad_words (Fault path y) (inl told) = absurd (cc)
never_bad_words (Limit path most) (inl told) = absurd (cc)
never_bad_words (Stuck path) (inl told) = absurd (cc)
never_bad_words why (inr (inl (fine, failed))) = absurd (cc)
never_bad_words why (inr (inr memory)) = absurd (cc)

-- Only an allocation can fail before the run.
done_without_a_run : ¬ GenerateEnds 1 Done []
done_without_a_run (inl (memory, none)) = absurd (cc)
done_without_a_run (inr ran) = no_round ran.job (ran.all (λ same. let never : Done ≡ NoMemory = same in cc))
  where
    no_round : (job : TextJob) → ¬ AreAllRounds text_job job (round_rule once) []
    no_round job are = elim are.over [
      | inl same ↦ absurd (omega (arith, same))
      | inr (inl ends) ↦ false≢true ends
      | inr (inr cut) ↦ cut
    ]

refused_as_bad_words : (runs : List TextRun) → ¬ GenerateEnds 1 BadWords runs
refused_as_bad_words runs (inl (memory, none)) = absurd (cc)
refused_as_bad_words runs (inr ran) = never_bad_words _ ran.after
