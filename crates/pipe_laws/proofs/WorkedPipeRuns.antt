-- A run of two lines and two pipes, of whose two tokens the first waits for the second: a run as the laws ask for.
use Rattle.std.proofs.Common.{◌≡◌, ℕ, ◌<◌, true, false, List, [], ◌∷◌, ◌++◌, length, Some, None, Vec, refl, inl, inr, ap, sym, arith}
use Rattle.std.specs.Prelude.{count_by, take}
use Rattle.std.proofs.lemmas.Bool.{false≢true}
use Rattle.std.proofs.lemmas.Option.{none-some}
use Rattle.std.specs.Global.{Global}
use Rattle.std.specs.declared.vec.Vec.{ok-type, small-type}
use denote.RawPtr.{Ptr}
use denote.Hole.Carrier.{out, shown}
use Rattle.task_graph.specs.NetRows.{NetRows}
use Rattle.task_graph.specs.Net.{out_edges}
use Rattle.journal_rules.specs.declared.entry.Cause.TheVariants.{Strong}
use Rattle.journal_rules.specs.declared.entry.Part.{Part}
use Rattle.journal_rules.specs.declared.entry.Part.TheVariants.{From, First}
use Rattle.journal_rules.specs.declared.entry.Entry.{Entry}
use Rattle.journal_rules.specs.declared.entry.Entry.TheVariants.{Start, End}
use Rattle.journal_rules.specs.Counts.{starts}
use Rattle.journal_rules.specs.Entries.{EachAfter}
use Rattle.journal_rules.specs.ReleaseRule.{IsReleased}
use Rattle.journal_rules.specs.ClosingRule.{ClosingRule}
use Rattle.journal_rules.specs.ChoiceRule.{ChoiceRule}
use Rattle.journal_rules.specs.HaltLimitStuckRule.{is_stuck}
use Rattle.journal_rules.specs.ShapeLegal.{IsInRange, MayFollow, MeetsDataRule, ShapeLegal}
use Rattle.journal_rules.specs.Complete.{Complete}
use Rattle.join_words.specs.Ins.{InputValue, value, first}
use Rattle.run_frame.specs.declared.job.Answer.TheVariants.{All as Each, None as NoneOf}
use Rattle.run_frame.specs.declared.job.Done.{Done}
use Rattle.run_frame.specs.declared.job.Done.TheVariants.{Value, Inner as InnerJob}
use Rattle.run_frame.specs.declared.run.FrameRun.{FrameRun, FrameRun', end_of-InnerRow, out-FrameRun}
use Rattle.run_frame.specs.declared.run.FrameRun.TheBlock.{shown-the_row-InnerRow-0}
use Rattle.run_frame.specs.declared.run.InnerRow.{out-InnerRow}
use Rattle.run_frame.specs.declared.run.ValueRow.{ValueRow}
use Rattle.run_frame.specs.Meaning.{Meaning}
use Rattle.run_frame.specs.Runs.{IsFine, values_of}
use Rattle.run_frame.specs.NestedRule.{journal_of}
use Rattle.run_frame.specs.WorkRule.{gives_of}
use Rattle.run_frame.specs.Legal.{CompleteRun, Legal}
use Rattle.pipe_lines.specs.PassOrder.{has_passed}
use Rattle.run_laws.specs.OneAnswer.{AllowsOne}
use Rattle.text_tasks.specs.Cells.{Pipeline, pipeline_net}
use Rattle.pipe_laws.specs.PipeRuns.{IsPipeRun}
use Rattle.pipe_laws.specs.Turns.{StartsAlone, TakesTurns, in_pipe, starts_one_of, tokens_started}
use Rattle.pipe_laws.specs.Laws.{LinesStartAlone, LinesTakeTurns, PassAllPipes, PipesKeepOrder, StartsAll}
use Rattle.pipe_laws.proofs.WorkedCells.{Pair, but_at, ends, leaving, pairs, pairs_are_cells, passing, token_held_back}

abbrev net : NetRows
net = pipeline_net passing

-- the job of these pairs
abbrev MayAnswer : Pipeline Pair → ℕ → List (InputValue Pair) → Done ℕ Pair → Type 0
MayAnswer pipeline t found (Value v answer) = pairs pipeline t found ≡ Some (record { value = v; gives = gives_of (out_edges (pipeline_net pipeline) t) answer })
MayAnswer pipeline t found (InnerJob job) = ⊥

abbrev pub pairs_job : Pipeline Pair → Meaning ℕ Pair
pairs_job pipeline = record {
  net = λ job. pipeline_net pipeline;
  limit = λ job. 10;
  answers = λ job. MayAnswer pipeline;
  faults = λ job t found why. pairs pipeline t found ≡ None;
  gathers = λ job run v. ⊥;
  gather_faults = λ job run why. ⊥;
  follows = λ job run next. ⊥;
}

pub allows_pairs : (pipeline : Pipeline Pair) (job : ℕ) → AllowsOne (pairs_job pipeline) job (pairs pipeline)
allows_pairs pipeline job = record {
  value = λ t found v answer is. is;
  fault = λ t found why is. is;
  inner_value = λ t found run v of_it fine gathered. absurd gathered;
  inner_fault = λ t found run of_it broken. absurd of_it.answered;
  gather_fault = λ t found run why of_it fine is. absurd is;
}

-- ---- the run

abbrev begin : List Entry
begin = Start 0 Strong (First ∷ First ∷ []) ∷ End 0 (0 ∷ 1 ∷ []) false ∷ []

-- the second line starts token 0, and the first brings token 1 to the second pipe
abbrev both_start : List Entry
both_start = begin ++ Start 2 Strong (From 1 ∷ First ∷ []) ∷ Start 1 Strong (From 1 ∷ []) ∷ []

-- there token 0 ends before token 1
abbrev both_end : List Entry
both_end = both_start ++ End 2 (3 ∷ 4 ∷ []) false ∷ Start 3 Strong (From 4 ∷ []) ∷ End 5 (5 ∷ []) false ∷ End 3 (2 ∷ []) false ∷ []

-- the first line meets the end
abbrev pub both_pass : List Entry
both_pass = both_end ++ Start 0 Strong (From 7 ∷ From 4 ∷ []) ∷ End 8 [] false ∷ []

starts_follow : (b : List Entry) (t : ℕ) (ins : List Part) → t < length net.tasks → IsReleased net b t Strong → starts b < 10 → count_by is_stuck b ≡ 0 → MayFollow net 10 b (Start t Strong ins)
starts_follow b t ins below released few unstuck = record { in_range = (below, tt); release = released; closing = tt; choice = tt; semaphore = record { within = tt; over = tt }; halt_limit_stuck = record { dropped = few; after_stuck = λ other. unstuck } }

ends_follow : (b : List Entry) (start : ℕ) (gives : List ℕ) → IsInRange net (End start gives false) → ClosingRule b (End start gives false) → ChoiceRule net b (End start gives false) → count_by is_stuck b ≡ 0 → MayFollow net 10 b (End start gives false)
ends_follow b start gives in_range closing choice unstuck = record { in_range = in_range; release = tt; closing = closing; choice = choice; semaphore = record { within = tt; over = tt }; halt_limit_stuck = record { dropped = tt; after_stuck = λ other. unstuck } }

shape : ShapeLegal net 10 both_pass
shape = (starts_follow _ 0 _ (omega arith) (λ none. absurd (cc), (omega arith, (omega arith, tt))) (omega arith) refl, (ends_follow _ _ _ (omega arith, (omega arith, tt)) refl (inl refl, refl) refl, (starts_follow _ 2 _ (omega arith) (λ none. absurd (cc), (omega arith, (omega arith, tt))) (omega arith) refl, (starts_follow _ 1 _ (omega arith) (λ none. absurd (cc), (omega arith, tt)) (omega arith) refl, (ends_follow _ _ _ (omega arith, (omega arith, tt)) refl (inl refl, refl) refl, (starts_follow _ 3 _ (omega arith) (λ none. absurd (cc), (omega arith, tt)) (omega arith) refl, (ends_follow _ _ _ (omega arith, tt) refl (inl refl, refl) refl, (ends_follow _ _ _ (omega arith, tt) refl (inl refl, refl) refl, (starts_follow _ 0 _ (omega arith) (λ none. absurd (cc), (omega arith, (omega arith, tt))) (omega arith) refl, (ends_follow _ _ _ tt refl (inr refl, refl) refl, tt))))))))))

finds : MeetsDataRule net both_pass
finds = ((record { found = (refl, refl); last = λ calm. refl }, (record { found = (refl, refl); last = λ calm. refl }, tt)), (tt, ((record { found = (refl, refl); last = λ calm. refl }, (record { found = (refl, refl); last = λ calm. refl }, tt)), ((record { found = (refl, refl); last = λ calm. refl }, tt), (tt, ((record { found = (refl, refl); last = λ calm. refl }, tt), (tt, (tt, ((record { found = (refl, refl); last = λ calm. refl }, (record { found = (refl, refl); last = λ calm. refl }, tt)), (tt, tt))))))))))

complete : Complete net 10 both_pass
complete = record {
  none_open = (refl, (refl, (refl, (refl, (refl, (refl, (refl, (refl, (refl, (refl, tt))))))))));
  sources = (λ is. absurd (cc), (λ is. absurd (cc), (λ is. absurd (cc), (λ is. absurd (cc), tt))));
  weak = (λ is. absurd (cc), (λ is. absurd (cc), (λ is. absurd (cc), (λ is. absurd (cc), (λ is. absurd (cc), (λ is. absurd (cc), tt))))));
  strong = (λ some. refl, (λ some. refl, (λ some. refl, (λ some. refl, tt))));
  limited = λ some. absurd (some refl);
}

fine : IsFine both_pass
fine = record { no_fault = refl; none_limited = refl; none_stuck = refl }

-- A run of these entries and values; runs hold their inner runs in vectors, here of none, wherever it stands in memory.
module _ (ptr : Ptr) (alloc : Global) (ok : ok-type (Unit {0}) Global ptr 0 0 alloc []) (small : small-type (Unit {0}) Global ptr 0 0 alloc [] ok) where
  abbrev nothing_inside : Vec (Unit {0}) Global
  nothing_inside = record { ptr = ptr; len = 0; cap = 0; alloc = alloc; items = []; ok = ok; small = small }

  abbrev row : ℕ → ℕ → ℕ → ValueRow Pair
  row n k place = record { place = n; value = record { ptr = ptr; value = (k, place) } }

  abbrev pub both_values : List (ValueRow Pair)
  both_values = row 1 1 0 ∷ row 4 0 1 ∷ row 6 0 0 ∷ row 7 1 0 ∷ row 9 0 2 ∷ []

  abbrev pub both_run : FrameRun ℕ Pair
  both_run = FrameRun' (record { ptr = ptr; value = 0 }) both_pass both_values nothing_inside end_of-InnerRow

  is_legal : Legal (pairs_job passing) both_run
  unfolding out-FrameRun out shown-the_row-InnerRow-0 shown out-InnerRow
  is_legal = (
    record {
      shape = shape;
      found = finds;
      work = (tt, (record { answer = Each; allowed = refl; chosen = refl }, (tt, (tt, (record { answer = Each; allowed = refl; chosen = refl }, (tt, (record { answer = Each; allowed = refl; chosen = refl }, (record { answer = Each; allowed = refl; chosen = refl }, (tt, (record { answer = NoneOf; allowed = refl; chosen = refl }, tt))))))))));
      nested = (refl, (tt, (refl, (refl, (tt, (refl, (tt, (tt, (refl, (tt, tt))))))))));
    },
    record { values = refl; rising = λ i j d before below. absurd (omega arith); fit = λ k d below. absurd (omega arith) },
    tt,
  )

  is_pipe_run : IsPipeRun (pairs_job passing) both_run passing (pairs passing)
  unfolding out-FrameRun out shown-the_row-InnerRow-0 shown out-InnerRow
  is_pipe_run = record { some_lines = omega arith; first_serial = refl; net = refl; cells = pairs_are_cells.0; one_answer = allows_pairs passing 0; legal = is_legal }

  -- ---- no runs of a pipeline

  abbrev without_lines : Pipeline Pair
  without_lines = record passing { lines = 0 }

  no_line : ¬ IsPipeRun (pairs_job without_lines) both_run without_lines (pairs without_lines)
  no_line is = absurd (omega (arith, is.some_lines))

  abbrev all_parallel : Pipeline Pair
  all_parallel = record passing { serials = false ∷ false ∷ [] }

  first_is_parallel : ¬ IsPipeRun (pairs_job all_parallel) both_run all_parallel (pairs all_parallel)
  first_is_parallel is = let other : Some false ≡ Some true = is.first_serial in absurd (cc)

  abbrev task_count : NetRows → ℕ
  task_count rows = length rows.tasks

  net_of_another : ¬ IsPipeRun (pairs_job passing) both_run (record passing { lines = 1 }) (pairs passing)
  net_of_another is = absurd (omega (arith, ap task_count is.net))

  others_than_cells : ¬ IsPipeRun (pairs_job passing) both_run passing (but_at 0 (ends 1 0 []) passing)
  others_than_cells is = token_held_back is.cells

  -- a job that answers at the end, in place of which these cells have none
  answer_of_others : ¬ IsPipeRun (pairs_job passing) both_run leaving (pairs leaving)
  answer_of_others is =
      let none : None ≡ Some (record { value = (0, 2); gives = [] }) = is.one_answer.value 0 (first ∷ value (0, 1) ∷ []) (0, 2) NoneOf refl in
      absurd (none-some _ none)

  abbrev ends_first : FrameRun ℕ Pair
  ends_first = FrameRun' (record { ptr = ptr; value = 0 }) (End 0 [] false ∷ []) (row 0 0 0 ∷ []) nothing_inside end_of-InnerRow

  illegal : ¬ IsPipeRun (pairs_job passing) ends_first passing (pairs passing)
  unfolding out-FrameRun out shown-the_row-InnerRow-0 shown out-InnerRow
  illegal is = absurd (false≢true is.legal.0.shape.0.closing)

-- ---- what the laws say of each run of this job

tokens_by_law : (run : FrameRun ℕ Pair) → PipesKeepOrder (pairs_job passing) run → IsPipeRun (pairs_job passing) run passing (pairs passing)
    → tokens_started passing (values_of run) 0 (journal_of run) ≡ take (count_by (starts_one_of (in_pipe passing 0)) (journal_of run)) (1 ∷ 0 ∷ [])
tokens_by_law run law is = (law passing (pairs passing) is 0 refl).tokens

turns_by_law : (run : FrameRun ℕ Pair) → LinesTakeTurns (pairs_job passing) run → IsPipeRun (pairs_job passing) run passing (pairs passing) → TakesTurns passing (values_of run) 1 1 (journal_of run)
turns_by_law run law is = law passing (pairs passing) is 1 1 (omega arith) (omega arith)

all_by_law : (run : FrameRun ℕ Pair) → PassAllPipes (pairs_job passing) run → IsPipeRun (pairs_job passing) run passing (pairs passing) → CompleteRun (pairs_job passing) run → IsFine (journal_of run)
    → (tokens_started passing (values_of run) 0 (journal_of run) ≡ 1 ∷ 0 ∷ []) × (has_passed (tokens_started passing (values_of run) 1 (journal_of run)) 0 ≡ true) × (has_passed (tokens_started passing (values_of run) 1 (journal_of run)) 2 ≡ false)
all_by_law run law is done well = let all : StartsAll run passing = law passing (pairs passing) is done well in (all.in_order 0 refl, all.each_pipe 1 0 (omega arith), all.each_pipe 1 2 (omega arith))

-- with a token that never passes no run comes to its end so
none_by_law : (run : FrameRun ℕ Pair) → PassAllPipes (pairs_job leaving) run → IsPipeRun (pairs_job leaving) run leaving (pairs leaving) → CompleteRun (pairs_job leaving) run → ¬ IsFine (journal_of run)
none_by_law run law is done well = none-some 2 (sym (law leaving (pairs leaving) is done well).none_left)

alone_by_law : LinesStartAlone 2 (true ∷ false ∷ []) → (limit : ℕ) (journal : List Entry) → ShapeLegal net limit journal → EachAfter (StartsAlone 2 1) journal
alone_by_law law limit journal legal = law limit journal legal 1 (omega arith)
