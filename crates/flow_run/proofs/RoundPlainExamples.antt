-- The rounds of a small plan without conditions by one thread, and what a call does that is asked for them, computed.
use Rattle.std.specs.Fmt.{digits}
use Rattle.std.proofs.Common.{◌≡◌, ℕ, zero, suc, List, [], ◌∷◌, ◌++◌, length, get_or, Option, Some, None, true, false, inl, refl, arith, ap, replicate}
use Rattle.std.specs.Prelude.{codes}
use Rattle.std.proofs.lemmas.Bool.{false≢true}
use Rattle.std.proofs.lemmas.List.Elements.{All-nil, All-cons, All-head, All-tail}
use Rattle.task_graph.specs.declared.net.EdgeRow.{EdgeRow}
use Rattle.task_graph.specs.declared.net.Shape.TheVariants.{Plain}
use Rattle.task_graph.specs.declared.net.TaskRow.{TaskRow}
use Rattle.call_status.specs.declared.status.Status.TheVariants.{Done}
use Rattle.command_line.specs.Requests.{Asked, once, times, until, run, profile}
use Rattle.graph_plans.specs.declared.ops.Op.TheVariants.{Input, Read, Text as OnText}
use Rattle.graph_plans.specs.declared.ops.TextOp.{TextOp}
use Rattle.graph_plans.specs.declared.ops.TextOp.TheVariants.{Head, Skip}
use Rattle.graph_plans.specs.PlanRows.{PlanRows}
use Rattle.profile_table.specs.ProfileText.{profile_text}
use Rattle.profile_table.specs.declared.row.TableRow.{TableRow}
use Rattle.report_laws.specs.PlainReport.{RunsWell, plain_feedback, plain_next, plain_report}
use Rattle.report_laws.specs.SmallPlans.{behind_a_circle, worked_job}
use Rattle.text_tasks.specs.GraphWork.{first_work}
use Rattle.text_tasks.specs.declared.job.TextJob.{TextJob}
use Rattle.text_tasks.specs.declared.job.TextJob.TheVariants.{Graph}
use Rattle.flow_run.specs.Plainly.{EndsPlainly, TookPlainly}
use Rattle.flow_run.specs.PlainProfiles.{plain_row, plain_rows, times_valued}
use Rattle.flow_run.specs.PlainRounds.{RoundsRunWell, ends_with, jobs_by_turns, plain_jobs, plain_round, plain_rounds}
use Rattle.flow_run.specs.RoundTexts.{round_line}

abbrev task : TaskRow
task = record { shape = Plain; takes = []; puts = [] }

abbrev edge : ℕ → ℕ → EdgeRow
edge from to = record { from = from; to = to; start = false }

-- the text of the round before, and behind it a text of two lines, go to one task, which does this
abbrev plan : TextOp → PlanRows
plan op = record {
  top = record {
    name = [];
    names = codes "i" ∷ codes "p" ∷ codes "k" ∷ [];
    ops = Input ∷ Read 0 ∷ OnText op ∷ [];
    sem_names = [];
    net = record { tasks = task ∷ task ∷ task ∷ []; edges = edge 0 2 ∷ edge 1 2 ∷ []; sems = [] };
  };
  modules = [];
  texts = codes "p" ∷ [];
}

abbrev started : TextOp → ℕ → List ℕ → TextJob
started op limit text = Graph (record (first_work (plan op) (codes "a1\nb\n" ∷ []) limit) { input = text })

-- the first round, in which the first line of both texts is left out, and the second
abbrev first : TextJob
first = started (Skip 1) 3 []

abbrev second : TextJob
second = started (Skip 1) 3 (codes "b\n")

-- ---- after which round there is none

no_text_ends_a_number : (text : List ℕ) → (ends_with once text ≡ false) × (ends_with (times 7) text ≡ false)
no_text_ends_a_number text = (refl, refl)

a_word_ends_them : (ends_with (until (codes "a")) (codes "b\na1\n") ≡ true) × (ends_with (until (codes "a")) (codes "b\n") ≡ false)
a_word_ends_them = (refl, refl)

-- ---- the jobs

second_follows : (plain_feedback first ≡ codes "b\n") × (plain_next first ≡ second) × (plain_feedback second ≡ codes "a1\nb\n")
second_follows = (refl, refl, refl)

none_is_asked : (job : TextJob) → plain_jobs (times 0) job ≡ []
none_is_asked job = refl

one_where_nothing_is_said : (job : TextJob) → plain_jobs once job ≡ job ∷ []
one_where_nothing_is_said job = refl

two_are_asked : plain_jobs (times 2) first ≡ first ∷ second ∷ []
two_are_asked = refl

word_in_the_first : plain_jobs (until (codes "b")) first ≡ first ∷ []
word_in_the_first = refl

word_in_the_second : plain_jobs (until (codes "a")) first ≡ first ∷ second ∷ []
word_in_the_second = refl

-- The first line of both texts alone is passed on; so where it is given, each round is like the one before, and a word
-- that isn't in it ends none.
abbrev like_the_last : TextJob
like_the_last = started (Head 1) 3 (codes "a1\n")

word_in_none : (n : ℕ) → jobs_by_turns (ends_with (until (codes "x"))) n like_the_last ≡ replicate n like_the_last
word_in_none zero = refl
word_in_none (suc n) = ap (λ jobs. like_the_last ∷ jobs) (word_in_none n)

-- ---- whether they run well

two_run_well : RoundsRunWell (times 2) first
two_run_well = All-cons RunsWell first (second ∷ []) refl (All-cons RunsWell second [] refl (All-nil RunsWell))

none_runs_badly : (job : TextJob) → RoundsRunWell (times 0) job
none_runs_badly job = All-nil RunsWell

first_over_the_limit : ¬ RoundsRunWell (times 2) (started (Skip 1) 2 [])
first_over_the_limit well = false≢true (All-head RunsWell (started (Skip 1) 2 []) (started (Skip 1) 2 (codes "b\n") ∷ []) well)

second_runs_badly : (job : TextJob) → ¬ RunsWell (plain_next job) → ¬ RoundsRunWell (times 2) job
second_runs_badly job badly well = badly (All-head RunsWell (plain_next job) [] (All-tail RunsWell job (plain_next job ∷ []) well))

second_is_not_asked : (job : TextJob) → RunsWell job → RoundsRunWell (times 1) job
second_is_not_asked job well = All-cons RunsWell job [] well (All-nil RunsWell)

-- ---- what is written

nothing_of_no_round : (job : TextJob) → plain_rounds (times 0) job ≡ []
nothing_of_no_round job = refl

a_report_alone : plain_rounds once first ≡ codes "== k\nb\n"
a_report_alone = refl

line_before_a_report : (plain_round once (3, first) ≡ plain_report first) × (plain_round (times 1) (3, first) ≡ round_line 3 ++ plain_report first)
line_before_a_report = (refl, refl)

abbrev two_reports : List ℕ
two_reports = codes "## round 1\n== k\nb\n## round 2\n== k\na1\nb\n"

two_with_their_lines : plain_rounds (times 2) first ≡ two_reports
unfolding digits
two_with_their_lines = refl

one_up_to_its_word : plain_rounds (until (codes "b")) first ≡ codes "## round 1\n== k\nb\n"
unfolding digits
one_up_to_its_word = refl

-- ---- a call

abbrev g : List ℕ
g = 0 ∷ []

abbrev twice : Option Asked
twice = Some (run g 3 1 (times 2) false)

abbrev known_length : Option (List ℕ) → ℕ
known_length None = 0
known_length (Some bytes) = length bytes

abbrev known_at : ℕ → Option (List ℕ) → ℕ
known_at n None = 0
known_at n (Some bytes) = get_or bytes n 0

done_with_two_reports : EndsPlainly twice (times 2) first (Some (7 ∷ [])) (Some (7 ∷ two_reports)) (Unit {0}) Done
unfolding digits
done_with_two_reports = record { well = λ _. two_run_well; output = λ _. refl; done = λ _ _. inl refl }

second_report_like_the_first : ¬ EndsPlainly twice (times 2) first (Some []) (Some (codes "## round 1\n== k\nb\n## round 2\n== k\nb\n")) (Unit {0}) Done
unfolding digits
second_report_like_the_first ends = absurd (omega (arith, ap known_length (ends.output refl)))

reports_exchanged : ¬ EndsPlainly twice (times 2) first (Some []) (Some (codes "## round 1\n== k\na1\nb\n## round 2\n== k\nb\n")) (Unit {0}) Done
unfolding digits
reports_exchanged ends = absurd (omega (arith, ap (known_at 16) (ends.output refl)))

done_with_a_bad_second : (asked : Option Asked) (job : TextJob) (before after : Option (List ℕ)) → ¬ RunsWell (plain_next job) → ¬ EndsPlainly asked (times 2) job before after (Unit {0}) Done
done_with_a_bad_second asked job before after badly ends = second_runs_badly job badly (ends.well refl)

done_with_no_round : (job : TextJob) → TookPlainly (Some (run g 3 1 (times 0) false)) job (Some (7 ∷ [])) (Some (7 ∷ []))
done_with_no_round job = refl

-- ---- profiles

abbrev row : ℕ → TableRow
row n = record { starts = n; ends = n; faults = 0; drops = 0 }

in_both_rounds : (times_valued (first ∷ second ∷ []) 2 ≡ 2) × (plain_row (first ∷ []) 0 ≡ row 1)
in_both_rounds = (refl, refl)

rows_of_two : plain_rows (times 2) first ≡ row 2 ∷ row 2 ∷ row 2 ∷ []
rows_of_two = refl

rows_of_none : plain_rows (times 0) first ≡ row 0 ∷ row 0 ∷ row 0 ∷ []
rows_of_none = refl

-- the tasks on a circle and the one behind it have no value
rows_on_a_circle : plain_rows once (worked_job behind_a_circle 1) ≡ row 1 ∷ row 0 ∷ row 0 ∷ row 0 ∷ []
rows_on_a_circle = refl

abbrev profiled : Option Asked
profiled = Some (profile g 3 1 (times 2))

-- its text, where the tasks have started so often
abbrev table : ℕ → ℕ → List ℕ
table n spans = profile_text (row n ∷ row n ∷ row n ∷ []) (codes "i" ∷ codes "p" ∷ codes "k" ∷ []) spans

done_with_a_table : EndsPlainly profiled (times 2) first (Some (7 ∷ [])) (Some (7 ∷ table 2 6)) (Unit {0}) Done
done_with_a_table = record { well = λ _. two_run_well; output = λ _. (6, refl); done = λ _ _. inl refl }

table_of_one_round : ¬ TookPlainly profiled first (Some []) (Some (table 1 6))
unfolding profile_text digits
table_of_one_round took = absurd (omega (arith, ap (known_at 85) took.1))

-- where a journal is asked for nothing is said
any_journal : (before after : Option (List ℕ)) → TookPlainly (Some (run g 3 1 (times 2) true)) first before after
any_journal before after = tt
