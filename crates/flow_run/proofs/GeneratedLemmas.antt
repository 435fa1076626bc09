-- The text and the tasks of generated graphs.
use Rattle.std.proofs.Common.{◌≡◌, ℕ, zero, suc, ◌+◌, ◌*◌, ◌%◌, ◌<◌, ◌≤◌, List, [], ◌∷◌, ◌++◌, length, map, codes, refl, sym, ap, ◌∙◌, subst, arith}
use Rattle.std.specs.Prelude.{All, Option, decimal, slice_index_or}
use Rattle.std.specs.List.{flat_map, range_with_len}
use Rattle.std.specs.Option.{option_and_then, option_map_or}
use Rattle.std.proofs.lemmas.Fmt.{length-decimal-le}
use Rattle.std.proofs.lemmas.List.{length-append}
use Rattle.std.proofs.Math.Nat.{mod-lt}
use Rattle.std.proofs.lemmas.List.Elements.{All-cons, All-nil}
use Rattle.command_line.specs.Requests.{once}
use Rattle.nested_runs.specs.Rounds.{AreFirstRounds}
use Rattle.run_frame.specs.declared.run.ValueRow.{ValueRow}
use Rattle.run_frame.specs.LastEnds.{last_end}
use Rattle.run_frame.specs.NestedRule.{job_of, journal_of}
use Rattle.run_frame.specs.Runs.{value_at, values_of}
use Rattle.text_ops.specs.Lines.{IsNormal, lines_of}
use Rattle.text_ops.proofs.LineLemmas.{IsNormal-append, IsNormal-ended}
use Rattle.text_tasks.specs.declared.item.Item.{Item}
use Rattle.text_tasks.specs.declared.job.TextJob.{TextJob}
use Rattle.text_tasks.specs.GraphWork.{IsWork, first_work, greatest_limit}
use Rattle.text_tasks.specs.Items.{item_text}
use Rattle.text_tasks.specs.JobMeaning.{net_of, text_job}
use Rattle.text_tasks.specs.ValueTexts.{IsValueText}
use Rattle.graph_plans.specs.PlanRows.{IsPlan, PlanRows}
use Rattle.graph_generator.specs.Draws.{draw}
use Rattle.graph_generator.specs.GeneratedPlan.{generated_plan}
use Rattle.graph_generator.specs.GeneratedText.{generated_text, text_line, text_lines}
use Rattle.graph_generator.proofs.RuleLemmas.{rows-count}
use Rattle.flow_run.specs.Generated.{IsGeneratedJob, generated_job, lines_of_last, summaries_text, summary_text}
use Rattle.flow_run.specs.RoundTexts.{TextRun, round_rule}

-- ---- the text

line_ended : (n d : ℕ) → IsNormal (text_line n d)
line_ended n d = IsNormal-ended (codes "w" ++ decimal (d % 50) ++ codes " " ++ decimal n)

line_short : (n d : ℕ) → n < 1000 → length (text_line n d) ≤ 8
line_short n d low =
    let less : d % 50 < 50 = mod-lt d {m = 50} (omega arith) in
    let word : length (decimal (d % 50)) ≤ 2 = length-decimal-le 2 (d % 50) (omega arith) (omega (arith, less)) (omega (arith, less)) in
    let number : length (decimal n) ≤ 3 = length-decimal-le 3 n (omega arith) (omega (arith, low)) (omega (arith, low)) in
    let front : List ℕ = codes "w" ++ decimal (d % 50) in
    omega (arith, word, number, length-append (front ++ codes " " ++ decimal n) (codes "\n"), length-append (front ++ codes " ") (decimal n), length-append front (codes " "), length-append (codes "w") (decimal (d % 50)))

abbrev lines_from : ℕ → ℕ → ℕ → List ℕ
lines_from seed a n = flat_map (λ k. text_line k (draw seed k)) (range_with_len a n)

lines_normal : (seed a n : ℕ) → IsNormal (lines_from seed a n)
lines_normal seed a zero = refl
lines_normal seed a (suc n) = IsNormal-append (text_line a (draw seed a)) (lines_from seed (a + 1) n) (line_ended a (draw seed a)) (lines_normal seed (a + 1) n)

lines_short : (seed a n : ℕ) → a + n ≤ 1000 → length (lines_from seed a n) ≤ 8 * n
lines_short seed a zero low = omega arith
lines_short seed a (suc n) low =
    let first : length (text_line a (draw seed a)) ≤ 8 = line_short a (draw seed a) (omega (arith, low)) in
    let rest : length (lines_from seed (a + 1) n) ≤ 8 * n = lines_short seed (a + 1) n (omega (arith, low)) in
    omega (arith, first, rest, length-append (text_line a (draw seed a)) (lines_from seed (a + 1) n))

-- The text is a value: it is normal and not too long.
pub generated_value : (layers : ℕ) → IsValueText (generated_text layers)
unfolding text_lines
generated_value layers = record {
  normal = lines_normal layers 0 200;
  short = omega (arith, lines_short layers 0 200 (omega arith));
}

-- ---- the tasks and the runs

-- ten for each layer, and seven behind them
pub generated_tasks : (layers : ℕ) → length (net_of (generated_job layers)).tasks ≡ 10 * layers + 7
generated_tasks = rows-count

-- so has each run of the job, which is run once
pub tasks_of_runs : (layers : ℕ) (job : TextJob) (runs : List TextRun) → IsGeneratedJob layers job → AreFirstRounds text_job job (round_rule once) runs
    → All (λ run. length (net_of (job_of run)).tasks ≡ 10 * layers + 7) runs
tasks_of_runs layers job [] is first = All-nil _
tasks_of_runs layers job (run ∷ []) is first =
    All-cons (λ (r : TextRun). length (net_of (job_of r)).tasks ≡ 10 * layers + 7) run [] (ap (λ (j : TextJob). length (net_of j).tasks) (first.rounds.first ∙ is.same) ∙ generated_tasks layers) (All-nil _)
tasks_of_runs layers job (run ∷ more ∷ rest) is first = absurd (omega (arith, first.few))

-- The work of the job, by the plan and the text.
pub generated_work : (layers : ℕ) (plan : PlanRows) → IsPlan plan → plan ≡ generated_plan layers → IsWork (first_work plan (generated_text layers ∷ []) greatest_limit)
generated_work layers plan keeps same = record {
  plan = keeps;
  text_count = sym (ap (λ (p : PlanRows). length p.texts) same);
  texts = All-cons IsValueText (generated_text layers) [] (generated_value layers) (All-nil _);
  input = record { normal = refl; short = omega arith };
  in_plan = tt;
  starts = omega arith;
}

-- ---- the summary

-- with how many lines a task ended, by the place of its last end
pub lines_are : (run : TextRun) (t lines : ℕ) (end : Option ℕ) (values : List (ValueRow Item)) → end ≡ last_end (journal_of run) t → values ≡ values_of run
    → lines ≡ option_map_or (λ (item : Item). length (lines_of (item_text item))) (option_and_then (value_at values) end) 0 → lines ≡ lines_of_last run t
lines_are run t lines end values at are is =
    is
    ∙ ap (λ (rows : List (ValueRow Item)). option_map_or (λ (item : Item). length (lines_of (item_text item))) (option_and_then (value_at rows) end) 0) are
    ∙ ap (λ e. option_map_or (λ (item : Item). length (lines_of (item_text item))) (option_and_then (value_at (values_of run)) e) 0) at

-- what is written is the summary of the first run
pub first_summary : (layers : ℕ) (runs : List TextRun) (run : TextRun) → 1 ≤ length runs → run ≡ slice_index_or runs 0 run → summaries_text layers runs ≡ summary_text layers run
first_summary layers [] run some is = absurd (omega (arith, some))
first_summary layers (first ∷ rest) run some is = ap (summary_text layers) (sym is)
