-- Each kept run of a pipeline comes to its value.
use Rattle.std.proofs.Common.{◌≡◌, ℕ, zero, suc, ◌+◌, ◌*◌, ◌≤◌, cond, List, [], length, Option, Some, None, sym, refl, ap, ◌∙◌, subst, arith}
use Rattle.std.specs.Prelude.{slice_get, is_none}
use Rattle.std.specs.Option.{option_and_then}
use Rattle.journal_rules.specs.Complete.{Complete}
use Rattle.journal_rules.specs.Entries.{EachAfter}
use Rattle.run_frame.specs.declared.run.FrameRun.{FrameRun}
use Rattle.run_frame.specs.Legal.{IsKept, LegalJournal}
use Rattle.run_frame.specs.NestedRule.{job_of, journal_of}
use Rattle.run_frame.specs.Runs.{IsFine, values_of}
use Rattle.text_tasks.specs.declared.item.Item.{Item}
use Rattle.text_tasks.specs.declared.job.TextJob.{TextJob}
use Rattle.text_tasks.specs.declared.job.TextJob.TheVariants.{Pipe}
use Rattle.text_tasks.specs.Cells.{pipeline_net}
use Rattle.text_tasks.specs.JobMeaning.{limit_of, net_of, text_gathered, text_job}
use Rattle.text_tasks.specs.PipeWork.{IsPipeWork, PipeWork, pipeline_of}
use Rattle.run_laws.specs.OneAnswer.{AllowsOne}
use Rattle.run_laws.specs.PlainJobs.{LeadsTo}
use Rattle.run_laws.specs.TextAnswers.{as_value}
use Rattle.run_laws.proofs.Along.{both, weaker}
use Rattle.run_laws.proofs.Faults.{IsOneFault}
use Rattle.run_laws.proofs.Report.{one_fault}
use Rattle.run_laws.proofs.Runs.{legal_journal}
use Rattle.run_laws.proofs.TextAnswers.{gather_long, gather_value}
use Rattle.pipe_laws.specs.PipeRuns.{IsPipeRun}
use Rattle.pipe_laws.proofs.CellRuns.{IsCellRun, is_cell_run}
use Rattle.pipe_laws.proofs.Passed.{tokens_pass_all_pipes}
use Rattle.pipe_laws.proofs.TextCells.{allows_cells, are_cells, cell_answer}
use Rattle.pipe_values.specs.Laws.{ComesToPipeValue}
use Rattle.pipe_values.specs.PipeValue.{pipe_value, texts_behind}
use Rattle.pipe_values.proofs.Behind.{AllShort, part_of, texts_each}
use Rattle.pipe_values.proofs.Gathered.{gathered_texts}
use Rattle.pipe_values.proofs.Uncut.{uncut}

module _ (run : FrameRun TextJob Item) (work : PipeWork) (same : job_of run ≡ Pipe work) (is : IsPipeWork work) (few : length work.order.passed ≤ length work.parts) (kept : IsKept text_job run) where
  abbrev limit : ℕ
  limit = limit_of (job_of run)

  allows : AllowsOne text_job (job_of run) (cell_answer work)
  allows = subst (λ j. AllowsOne text_job j (cell_answer work)) (sym same) (allows_cells work)

  pipe_run : IsPipeRun text_job run (pipeline_of work) (cell_answer work)
  pipe_run = record {
    some_lines = is.pipeline.some_lines;
    first_serial = is.pipeline.first_serial;
    net = ap net_of same;
    cells = are_cells work is;
    one_answer = allows;
    legal = kept.legal;
  }

  cells : IsCellRun (pipeline_of work) (cell_answer work) limit (values_of run) (journal_of run)
  cells = is_cell_run text_job run (pipeline_of work) (cell_answer work) pipe_run

  complete : Complete (pipeline_net (pipeline_of work)) limit (journal_of run)
  complete = subst (λ net. Complete net limit (journal_of run)) (ap net_of same) kept.complete

  -- ---- a fine run

  -- its value is what the text that is gathered is as a value
  fine_value : IsFine (journal_of run) → pipe_value work ≡ as_value (text_gathered (job_of run) run)
  fine_value fine =
      ap (λ o. cond (is_none o) (option_and_then as_value (texts_behind work 0 work.order.passed)) None) none_left
      ∙ ap (option_and_then as_value) (gathered_texts work is limit run cells complete fine)
      ∙ ap (λ j. as_value (text_gathered j run)) (sym same)
    where
      none_left : work.order.unmet ≡ None
      none_left = (tokens_pass_all_pipes text_job run (pipeline_of work) (cell_answer work) pipe_run kept.complete fine).none_left

  -- ---- a run that was cut short

  one_faults : EachAfter (IsOneFault (cell_answer work) (values_of run)) (journal_of run)
  one_faults =
      let journal : LegalJournal text_job run = legal_journal text_job run kept.legal in
      weaker _ _ (λ b x rules. one_fault text_job run (cell_answer work) allows kept.legal b x rules.0 rules.1) [] (journal_of run) (both _ _ [] (journal_of run) journal.work journal.nested)

  enough : length work.order.passed * length work.spec.serial + 1 ≤ limit
  enough = omega (arith, ap limit_of same, rise (length work.order.passed) (length work.parts) (length work.spec.serial) few)
    where
      rise : (a b c : ℕ) → a ≤ b → a * c ≤ b * c
      rise zero b c less = omega arith
      rise (suc a) zero c less = absurd (omega (arith, less))
      rise (suc a) (suc b) c less = omega (arith, rise a b c (omega (arith, less)))

  fine_when : work.order.unmet ≡ None → (texts : List ℕ) → texts_behind work 0 work.order.passed ≡ Some texts → IsFine (journal_of run)
  fine_when none_left texts behind = uncut work is limit (values_of run) (journal_of run) cells none_left shorts one_faults complete enough
    where
      shorts : (n token : ℕ) → slice_get work.order.passed n ≡ Some token → AllShort work.ops token n (part_of work token)
      shorts n token at = let plain : 0 + n ≡ n = omega arith in subst (λ m. AllShort work.ops token m (part_of work token)) plain (texts_each work 0 work.order.passed texts behind n token at)

  cut_value : ¬ IsFine (journal_of run) → pipe_value work ≡ None
  cut_value cut = by_unmet work.order.unmet refl
    where
      by_texts : work.order.unmet ≡ None → (o : Option (List ℕ)) → texts_behind work 0 work.order.passed ≡ o → option_and_then as_value o ≡ None
      by_texts none_left None none = refl
      by_texts none_left (Some texts) behind = absurd (cut (fine_when none_left texts behind))

      by_unmet : (o : Option ℕ) → work.order.unmet ≡ o → cond (is_none o) (option_and_then as_value (texts_behind work 0 work.order.passed)) None ≡ None
      by_unmet (Some k) left = refl
      by_unmet None none_left = by_texts none_left (texts_behind work 0 work.order.passed) refl

  comes_to : LeadsTo text_job run (pipe_value work)
  comes_to = record {
    value = λ v fine gathers. fine_value fine ∙ gather_value (text_gathered (job_of run) run) v gathers.0 gathers.1;
    short = cut_value;
    fault = λ why fine faults. fine_value fine ∙ gather_long (text_gathered (job_of run) run) why faults;
  }

pub comes_to_value : (run : FrameRun TextJob Item) → ComesToPipeValue run
comes_to_value run work same is few kept = comes_to run work same is few kept
