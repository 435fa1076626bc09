-- What a call does that is asked for the report of a small plan without conditions, computed.
use Rattle.std.proofs.Common.{◌≡◌, ◌⊎◌, ℕ, List, [], ◌∷◌, length, get_or, Option, Some, None, true, false, inl, inr, refl, arith, ap, sym}
use Rattle.std.specs.Prelude.{codes}
use Rattle.std.proofs.lemmas.Bool.{false≢true}
use Rattle.std.proofs.lemmas.List.Elements.{All-nil, All-cons, All-head}
use Rattle.task_graph.specs.declared.net.Shape.TheVariants.{Plain}
use Rattle.task_graph.specs.declared.net.TaskRow.{TaskRow}
use Rattle.call_status.specs.declared.status.Status.TheVariants.{Done, Limit, NoMemory, WriteFault}
use Rattle.command_line.specs.Requests.{Asked, AskedRounds, once, times, most_rounds, run, profile, judge, check, upgrade, generate, count}
use Rattle.report_laws.specs.PlainReport.{IsPlainJob, RunsWell}
use Rattle.report_laws.specs.SmallPlans.{chooses_a_branch, kept_together, worked_job}
use Rattle.text_tasks.specs.declared.job.TextJob.{TextJob}
use Rattle.flow_run.specs.Requests.{SourceTexts}
use Rattle.flow_run.specs.Plainly.{AsksPlainly, AsksRounds, EndsPlainly}
use Rattle.flow_run.specs.PlainRounds.{RoundsRunWell}

abbrev g : List ℕ
g = 0 ∷ []

abbrev at_a_time : ℕ → TextJob
at_a_time limit = worked_job kept_together limit

abbrev report : List ℕ
report = codes "== k\na1\na2\n== h\nb\n"

abbrev known_length : Option (List ℕ) → ℕ
known_length None = 0
known_length (Some bytes) = length bytes

abbrev known_at : ℕ → Option (List ℕ) → ℕ
known_at n None = 0
known_at n (Some bytes) = get_or bytes n 0

abbrev reports_once : Option Asked
reports_once = Some (run g 4 1 once false)

runs_well : RoundsRunWell once (at_a_time 4)
runs_well = All-cons RunsWell (at_a_time 4) [] refl (All-nil RunsWell)

done_with_its_report : EndsPlainly reports_once once (at_a_time 4) (Some (7 ∷ [])) (Some (7 ∷ report)) (Unit {0}) Done
done_with_its_report = record { well = λ _. runs_well; output = λ _. refl; done = λ _ _. inl refl }

done_over_the_limit : (before after : Option (List ℕ)) → ¬ EndsPlainly reports_once once (at_a_time 3) before after (Unit {0}) Done
done_over_the_limit before after ends = false≢true (All-head RunsWell (at_a_time 3) [] (ends.well refl))

two_values_exchanged : ¬ EndsPlainly reports_once once (at_a_time 4) (Some []) (Some (codes "== k\nb\n== h\na1\na2\n")) (Unit {0}) Done
two_values_exchanged ends = absurd (omega (arith, ap (known_at 5) (ends.output refl)))

only_the_first_predecessor : ¬ EndsPlainly reports_once once (at_a_time 4) (Some []) (Some (codes "== k\na1\n== h\nb\n")) (Unit {0}) Done
only_the_first_predecessor ends = absurd (omega (arith, ap known_length (ends.output refl)))

not_done_within_the_limit : (before after : Option (List ℕ)) → ¬ EndsPlainly reports_once once (at_a_time 4) before after (Unit {0}) (Limit [] 4)
not_done_within_the_limit before after ends = by (ends.done runs_well tt)
  where
    by : (Limit [] 4 ≡ Done) ⊎ (Limit [] 4 ≡ NoMemory) → ⊥
    by (inl same) = cc
    by (inr same) = cc

a_write_failed : (before after : Option (List ℕ)) → EndsPlainly reports_once once (at_a_time 4) before after ⊥ WriteFault
a_write_failed before after = record { well = λ (same : WriteFault ≡ Done). absurd (cc); output = λ (same : WriteFault ≡ Done). absurd (cc); done = λ _ failed. absurd failed }

-- Reports of any rounds may be asked for, and a profile; not a journal, a check, or a source that doesn't specify its
-- texts.
asks_for_rounds : (rounds : AskedRounds) → AsksRounds (Some (run g 4 1 rounds false)) g 4 1 rounds × AsksRounds (Some (profile g 4 1 rounds)) g 4 1 rounds
asks_for_rounds rounds = (inl refl, inr refl)

no_journal_is_asked : (file : List ℕ) (limit workers : ℕ) (rounds : AskedRounds) → ¬ AsksRounds (Some (run g 4 1 once true)) file limit workers rounds
no_journal_is_asked file limit workers rounds (inl same) = absurd (cc)
no_journal_is_asked file limit workers rounds (inr same) = absurd (cc)

asks_for_the_journal : (held : SourceTexts) (rounds : AskedRounds) (job : TextJob) → ¬ AsksPlainly held (Some (run g 4 1 once true)) rounds job
asks_for_the_journal held rounds job asks = no_journal_is_asked asks.file asks.limit asks.workers rounds asks.asks

no_check_is_asked : (file : List ℕ) (limit workers : ℕ) (rounds : AskedRounds) → ¬ AsksRounds (Some (check g)) file limit workers rounds
no_check_is_asked file limit workers rounds (inl same) = absurd (cc)
no_check_is_asked file limit workers rounds (inr same) = absurd (cc)

asks_for_a_check : (held : SourceTexts) (rounds : AskedRounds) (job : TextJob) → ¬ AsksPlainly held (Some (check g)) rounds job
asks_for_a_check held rounds job asks = no_check_is_asked asks.file asks.limit asks.workers rounds asks.asks

abbrev most_asked : Option Asked → ℕ
most_asked None = 0
most_asked (Some (run file limit workers rounds journal)) = most_rounds rounds
most_asked (Some (profile file limit workers rounds)) = most_rounds rounds
most_asked (Some (judge file name limit)) = 0
most_asked (Some (check file)) = 0
most_asked (Some (upgrade file)) = 0
most_asked (Some (generate layers workers)) = 0
most_asked (Some (count word file grain workers)) = 0

-- The rounds are those that are asked for.
of_other_rounds : (workers : ℕ) → ¬ AsksRounds (Some (run g 4 1 (times 2) false)) g 4 workers (times 3)
of_other_rounds workers (inl same) = let most : 2 ≡ 3 = ap most_asked same in absurd (omega (arith, most))
of_other_rounds workers (inr same) = absurd (cc)

asks_for_nothing_known : (asked : Option Asked) (rounds : AskedRounds) (job : TextJob) → ¬ AsksPlainly None asked rounds job
asks_for_nothing_known asked rounds job asks = let same : None ≡ Some asks.text = asks.specified in absurd (cc)

-- nor is one for a plan with a condition
abbrev row : TaskRow
row = record { shape = Plain; takes = []; puts = [] }

not_plain : ¬ IsPlainJob (worked_job chooses_a_branch 4)
not_plain plain = let chosen : true ≡ false = plain.0.no_condition 0 row (omega arith) in false≢true (sym chosen)

asks_for_a_condition : (held : SourceTexts) (asked : Option Asked) (rounds : AskedRounds) → ¬ AsksPlainly held asked rounds (worked_job chooses_a_branch 4)
asks_for_a_condition held asked rounds asks = not_plain asks.plain
