-- A legal journal of a pipeline's cells: at each of its entries the starts before it met what the order has at their
-- turns.
use Rattle.std.proofs.Common.{◌≡◌, ℕ, ◌<◌, ◌≤◌, Bool, true, cond, eqb, List, [], ◌∷◌, ◌++◌, length, Some, sym, refl, ap, subst, ◌∙◌, arith}
use Rattle.std.specs.Prelude.{count_by, slice_get, ◌==◌}
use Rattle.std.proofs.lemmas.Bool.Decides.{nat_tests}
use Rattle.std.proofs.lemmas.List.Sums.{sum_by-cons}
use Rattle.journal_rules.specs.declared.entry.Entry.{Entry}
use Rattle.journal_rules.specs.declared.entry.Entry.TheVariants.{Start, End, Fault, Drop}
use Rattle.journal_rules.specs.declared.entry.Cause.{Cause}
use Rattle.journal_rules.specs.declared.entry.Part.{Part}
use Rattle.journal_rules.specs.Counts.{start_at}
use Rattle.journal_rules.specs.Entries.{EachAfterThese}
use Rattle.journal_rules.specs.ShapeLegal.{ShapeLegal, MeetsDataRule}
use Rattle.journal_rules.proofs.Snoc.{slice_get_push_last}
use Rattle.run_frame.specs.declared.run.ValueRow.{ValueRow}
use Rattle.run_frame.specs.declared.run.FrameRun.{FrameRun}
use Rattle.run_frame.specs.Meaning.{Meaning}
use Rattle.run_frame.specs.Runs.{found_ins, values_of}
use Rattle.run_frame.specs.NestedRule.{job_of, journal_of}
use Rattle.pipe_lines.specs.Orders.{passed_at}
use Rattle.run_laws.specs.OneThreadValue.{OneAnswer}
use Rattle.run_laws.proofs.Along.{along, both, weaker, gather_push}
use Rattle.run_laws.proofs.Phases.{begins}
use Rattle.run_laws.proofs.Pipes.{pipes_ringed, steady_pipes}
use Rattle.run_laws.proofs.Runs.{legal_journal, one_end}
use Rattle.run_laws.proofs.Steps.{start_of, starts_in}
use Rattle.run_laws.proofs.Values.{Kept, kept_step}
use Rattle.run_laws.proofs.Legally.{Given, Known, kept_all, placed_along}
use Rattle.text_tasks.specs.Cells.{Pipeline, cell_task, meets, pipeline_net}
use Rattle.pipe_laws.specs.Cells.{AreCells}
use Rattle.pipe_laws.specs.PipeRuns.{IsPipeRun}
use Rattle.pipe_laws.specs.Turns.{MeetsAtTurn, TakesTurns, starts_one_of}
use Rattle.pipe_laws.specs.Laws.{LinesTakeTurns}
use Rattle.pipe_laws.proofs.CellTurns.{AllEnds, AllStarts, ends_by_starts, meets_turn, no_starts, place_at, starts_step}

pub record IsCellRun {V : Type 0} (pipeline : Pipeline V) (one : OneAnswer V) (limit : ℕ) (values : List (ValueRow V)) (h : List Entry) : Type 0 where
  pub some_lines : 1 ≤ pipeline.lines
  pub first_serial : slice_get pipeline.serials 0 ≡ Some true
  pub cells : AreCells pipeline one
  pub given : Given (pipeline_net pipeline) limit one values h

-- in a legal run of a pipeline
pub is_cell_run : {J V : Type 0} (meaning : Meaning J V) (run : FrameRun J V) (pipeline : Pipeline V) (one : OneAnswer V) → IsPipeRun meaning run pipeline one → IsCellRun pipeline one (meaning.limit (job_of run)) (values_of run) (journal_of run)
is_cell_run meaning run pipeline one is = record {
  some_lines = is.some_lines;
  first_serial = is.first_serial;
  cells = is.cells;
  given = record {
    strong = (pipes_ringed pipeline.lines pipeline.serials).strong;
    shape = shape;
    found = subst (λ net. MeetsDataRule net (journal_of run)) is.net (legal_journal meaning run is.legal).found;
    steady = steady_pipes pipeline.lines pipeline.serials (meaning.limit (job_of run)) (journal_of run) shape;
    one_ends = weaker _ _ (λ b x rules. one_end meaning run one is.one_answer is.legal b x rules.0 rules.1) [] (journal_of run) (both _ _ [] (journal_of run) (legal_journal meaning run is.legal).work (legal_journal meaning run is.legal).nested);
  };
}
  where
    shape : ShapeLegal (pipeline_net pipeline) (meaning.limit (job_of run)) (journal_of run)
    shape = subst (λ net. ShapeLegal net (meaning.limit (job_of run)) (journal_of run)) is.net (legal_journal meaning run is.legal).shape

count_same : {X : Type 0} (p q : X → Bool) → ((x : X) → p x ≡ q x) → (xs : List X) → count_by p xs ≡ count_by q xs
count_same p q same [] = refl
count_same p q same (x ∷ xs) = omega (arith, sum_by-cons (λ y. cond (p y) 1 0) x xs, sum_by-cons (λ y. cond (q y) 1 0) x xs, ap {B = ℕ} (λ b. cond b 1 0) (same x), count_same p q same xs)

begins_same : (t : ℕ) (b : List Entry) → count_by (starts_one_of (λ s. s == t)) b ≡ count_by (begins t) b
begins_same t b = count_same (starts_one_of (λ s. s == t)) (begins t) each b
  where
    each : (x : Entry) → starts_one_of (λ s. s == t) x ≡ begins t x
    each (Start task cause ins) = refl
    each (End start gives inner) = refl
    each (Fault start why) = refl
    each (Drop task cause why) = refl

module _ {V : Type 0} (pipeline : Pipeline V) (one : OneAnswer V) (limit : ℕ) (values : List (ValueRow V)) (h : List Entry) (is : IsCellRun pipeline one limit values h) where
  abbrev task : ℕ → ℕ → ℕ
  task = cell_task pipeline

  pub kept : Kept (pipeline_net pipeline) one values (start_at h) h
  kept = (kept_all (pipeline_net pipeline) limit one values h is.given).1

  -- what is known of each entry
  abbrev pub AtEntry : List Entry → Entry → Type 0
  AtEntry b x = AllStarts pipeline values b × (Kept (pipeline_net pipeline) one values (start_at h) b × Known (pipeline_net pipeline) one values h b x)

  starts_after : (b : List Entry) (x : Entry) → AtEntry b x → AllStarts pipeline values (b ++ x ∷ [])
  starts_after b x known =
      starts_step pipeline one is.cells is.first_serial values (start_at h) b x known.1.0 (kept_step (pipeline_net pipeline) one values (start_at h) is.given.strong b x known.1.1 known.1.0) known.1.1.phases known.0

  starts_along : EachAfterThese AtEntry [] h × AllStarts pipeline values h
  starts_along =
      along (λ b x. Kept (pipeline_net pipeline) one values (start_at h) b × Known (pipeline_net pipeline) one values h b x) (AllStarts pipeline values) (λ b x rule all. starts_after b x (all, rule)) [] h
      (no_starts pipeline one is.cells is.first_serial values (start_at h)) (kept_all (pipeline_net pipeline) limit one values h is.given).0

  pub at_entries : EachAfterThese AtEntry [] h
  at_entries = starts_along.0

  pub all_starts : AllStarts pipeline values h
  all_starts = starts_along.1

  pub all_ends : AllEnds pipeline values (start_at h) h
  all_ends = ends_by_starts pipeline one is.cells is.first_serial values (start_at h) h kept ((placed_along (pipeline_net pipeline) limit h is.given.shape is.given.steady.single).1.phases) all_starts

  -- a start of a cell
  pub start_meets : (b : List Entry) (l p : ℕ) (cause : Cause) (ins : List Part) → AtEntry b (Start (task l p) cause ins) → l < pipeline.lines → p < length pipeline.serials
      → meets pipeline p (task l p) (found_ins values ins) ≡ passed_at pipeline.order (place_at pipeline l (length (starts_in values (task l p) b)))
  start_meets b l p cause ins known in_l in_p = meets_turn pipeline l p k (found_ins values ins) ((starts_after b (Start (task l p) cause ins) known).starts l p k (found_ins values ins) in_l in_p at_k)
    where
      k : ℕ
      k = length (starts_in values (task l p) b)

      hit : eqb (task l p) (task l p) ≡ true
      hit = grind (arith, nat_tests)

      at_k : slice_get (starts_in values (task l p) (b ++ Start (task l p) cause ins ∷ [])) k ≡ Some (found_ins values ins)
      at_k =
          ap (λ ss. slice_get ss k) (gather_push (start_of values (task l p)) b (Start (task l p) cause ins) ∙ ap (λ t. starts_in values (task l p) b ++ cond t (found_ins values ins ∷ []) []) hit)
          ∙ slice_get_push_last (starts_in values (task l p) b) (found_ins values ins)

  -- At each pipe the lines take turns.
  abbrev pub AtTurn : ℕ → ℕ → List Entry → Entry → Type 0
  AtTurn l p = MeetsAtTurn pipeline values p (λ t. t == task l p) (λ k. place_at pipeline l k)

  pub turn_at : (l p : ℕ) → l < pipeline.lines → p < length pipeline.serials → (b : List Entry) (x : Entry) → AtEntry b x → AtTurn l p b x
  turn_at l p in_l in_p b (End start gives inner) known = tt
  turn_at l p in_l in_p b (Fault start why) known = tt
  turn_at l p in_l in_p b (Drop t cause why) known = tt
  turn_at l p in_l in_p b (Start t cause ins) known = each
    where
      each : eqb t (task l p) ≡ true → meets pipeline p t (found_ins values ins) ≡ passed_at pipeline.order (place_at pipeline l (count_by (starts_one_of (λ s. s == task l p)) b))
      each hit =
          let task_is : t ≡ task l p = grind (arith, nat_tests) in
          ap (λ s. meets pipeline p s (found_ins values ins)) task_is
          ∙ start_meets b l p cause ins (subst (λ s. AtEntry b (Start s cause ins)) task_is known) in_l in_p
          ∙ ap (λ k. passed_at pipeline.order (place_at pipeline l k)) ((known.1.0.ran (task l p)).begun ∙ sym (begins_same (task l p) b))

  pub takes_turns : (l p : ℕ) → l < pipeline.lines → p < length pipeline.serials → TakesTurns pipeline values l p h
  takes_turns l p in_l in_p = weaker AtEntry (AtTurn l p) (turn_at l p in_l in_p) [] h at_entries

pub lines_take_turns : {J V : Type 0} (meaning : Meaning J V) (run : FrameRun J V) → LinesTakeTurns meaning run
lines_take_turns meaning run pipeline one is l p in_l in_p = takes_turns pipeline one (meaning.limit (job_of run)) (values_of run) (journal_of run) (is_cell_run meaning run pipeline one is) l p in_l in_p
