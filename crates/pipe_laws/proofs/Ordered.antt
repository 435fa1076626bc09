-- The starts of each serial pipe come in the order of the tokens.
use Rattle.std.proofs.Common.{◌≡◌, ◌⊎◌, inl, inr, ℕ, zero, suc, ◌+◌, ◌*◌, ◌<◌, ◌≤◌, Bool, true, false, cond, eqb, ltb, List, [], ◌∷◌, ◌++◌, length, take, get_or, Option, Some, None, sym, refl, ap, subst, ◌∙◌, arith}
use Rattle.std.specs.Prelude.{slice_get, count_by}
use Rattle.std.proofs.lemmas.Bool.Decides.{nat_tests}
use Rattle.std.proofs.Math.Seq.{take-suc}
use Rattle.std.proofs.lemmas.Bool.{cases_lt}
use Rattle.std.proofs.lemmas.List.{append-nil, take_all}
use Rattle.std.proofs.lemmas.Option.{slice_get_within, slice_get_past, slice_get-get_or}
use Rattle.task_graph.specs.Places.{places}
use Rattle.task_graph.specs.NetRows.{NetRows}
use Rattle.journal_rules.specs.declared.entry.Entry.{Entry}
use Rattle.journal_rules.specs.declared.entry.Entry.TheVariants.{Start, End, Fault, Drop}
use Rattle.journal_rules.specs.declared.entry.Cause.{Cause}
use Rattle.journal_rules.specs.declared.entry.Cause.TheVariants.{Strong}
use Rattle.journal_rules.specs.declared.entry.Part.{Part}
use Rattle.journal_rules.specs.Counts.{start_at}
use Rattle.journal_rules.specs.ReleaseRule.{IsReleased}
use Rattle.journal_rules.specs.Entries.{EachAfter, EachAfterThese}
use Rattle.journal_rules.proofs.Snoc.{count_by_push}
use Rattle.journal_rules.proofs.Tallying.{count_by_push_no, count_by_push_yes}
use Rattle.run_frame.specs.declared.run.ValueRow.{ValueRow}
use Rattle.run_frame.specs.declared.run.FrameRun.{FrameRun}
use Rattle.run_frame.specs.Meaning.{Meaning}
use Rattle.run_frame.specs.Runs.{found_ins, values_of}
use Rattle.run_frame.specs.NestedRule.{job_of, journal_of}
use Rattle.pipe_lines.specs.declared.order.Order.{Order}
use Rattle.pipe_lines.specs.Orders.{end_of, passed_or, passed_at}
use Rattle.pipe_lines.specs.PipeNet.{pipe_edges}
use Rattle.run_laws.specs.OneThreadValue.{OneAnswer}
use Rattle.run_laws.specs.Rings.{IsRinged}
use Rattle.run_laws.specs.Cycles.{LiesAt, IsCycle, uses_some, turn, GoesRound}
use Rattle.run_laws.proofs.Along.{along, both, weaker, gather_push}
use Rattle.run_laws.proofs.Phases.{stops_one}
use Rattle.run_laws.proofs.Rings.{released_strongly}
use Rattle.run_laws.proofs.Pipes.{of_pipe as is_of_pipe, pipe_ring, pipes_ringed}
use Rattle.run_laws.proofs.PipeCycles.{pipe_cycle}
use Rattle.run_laws.proofs.Order.{Going, InRound, goes_round, rounds_along}
use Rattle.run_laws.proofs.Steps.{starts_in}
use Rattle.text_tasks.specs.Cells.{Pipeline, cell_task, meets, pipeline_net}
use Rattle.pipe_laws.specs.Turns.{IsInOrder, MeetsAtTurn, in_pipe, starts_one_of, token_passed, token_started, tokens_started}
use Rattle.pipe_laws.specs.Laws.{PipesKeepOrder}
use Rattle.pipe_laws.proofs.Held.{EdgeOfRing, none_behind}
use Rattle.pipe_laws.proofs.Edges.{pipe_ring_edge}
use Rattle.pipe_laws.proofs.CellTurns.{place_at}
use Rattle.pipe_laws.proofs.CellRuns.{AtEntry, IsCellRun, at_entries, is_cell_run, start_meets}
use Rattle.pipe_laws.proofs.Through.{some_pipes}

-- one place more
take_more : (order : Order) (n : ℕ) → take (n + 1) order.passed ≡ take n order.passed ++ token_passed (passed_at order n)
take_more order n = by_place (cases_lt n (length order.passed))
  where
    no_token : (unmet : Option ℕ) → token_passed (end_of unmet) ≡ []
    no_token None = refl
    no_token (Some k) = refl

    by_place : (n < length order.passed) ⊎ (length order.passed ≤ n) → take (n + 1) order.passed ≡ take n order.passed ++ token_passed (passed_at order n)
    by_place (inl below) =
        let at : slice_get order.passed n ≡ Some (get_or order.passed n 0) = slice_get-get_or order.passed n 0 below in
        let more : n + 1 ≡ suc n = omega arith in
        ap (λ m. take m order.passed) more ∙ take-suc order.passed n 0 below ∙ ap (λ o. take n order.passed ++ token_passed (passed_or o order.unmet)) (sym at)
    by_place (inr past) =
        take_all (n + 1) order.passed (omega (arith, past)) ∙ sym (take_all n order.passed past) ∙ sym (append-nil (take n order.passed))
        ∙ ap (λ ts. take n order.passed ++ ts) (sym (ap (λ o. token_passed (passed_or o order.unmet)) (slice_get_past order.passed n past) ∙ no_token order.unmet))

-- the tokens started by one entry more
pub started_more : {V : Type 0} (pipeline : Pipeline V) (values : List (ValueRow V)) (p : ℕ) (b : List Entry) (x : Entry) → tokens_started pipeline values p (b ++ x ∷ []) ≡ tokens_started pipeline values p b ++ token_started pipeline values p (length b) x
started_more pipeline values p b x = gather_push (token_started pipeline values p) b x

module _ {V : Type 0} (pipeline : Pipeline V) (one : OneAnswer V) (limit : ℕ) (values : List (ValueRow V)) (h : List Entry) (is : IsCellRun pipeline one limit values h) (p : ℕ) (serial : slice_get pipeline.serials p ≡ Some true) where
  abbrev net : NetRows
  net = pipeline_net pipeline

  abbrev lines : ℕ
  lines = pipeline.lines

  abbrev among : ℕ → Bool
  among = in_pipe pipeline p

  abbrev of_pipe : ℕ → ℕ
  of_pipe l = cell_task pipeline l p

  ringed : IsRinged net
  ringed = pipes_ringed lines pipeline.serials

  pub cycle : IsCycle net lines of_pipe among
  cycle = pipe_cycle lines pipeline.serials p serial is.some_lines (some_pipes pipeline is.first_serial)

  -- what is known of each entry
  abbrev pub Rule : List Entry → Entry → Type 0
  Rule b x = AtEntry pipeline one limit values h is b x × (InRound net limit lines of_pipe among (start_at h) b x × GoesRound lines of_pipe among b x)

  rules : EachAfterThese Rule [] h
  rules =
      both _ _ [] h (at_entries pipeline one limit values h is)
      (both _ _ [] h (rounds_along net limit lines of_pipe among h ringed cycle is.given.shape).0 (goes_round net limit lines of_pipe among h ringed cycle is.given.shape))

  -- ---- starts and drops

  -- a task of the pipe had a drop or a fault
  pub record StoppedIn (b : List Entry) : Type 0 where
    pub line : ℕ
    pub below : line < lines
    pub stopped : 1 ≤ count_by (stops_one (start_at h) (of_pipe line)) b

  -- each use of a task of the pipe was a start, or one was dropped
  abbrev pub Stands : List Entry → Type 0
  Stands b = (count_by (uses_some among) b ≡ count_by (starts_one_of among) b) ⊎ StoppedIn b

  same_counts : (b : List Entry) (x : Entry) → uses_some among x ≡ starts_one_of among x → count_by (uses_some among) b ≡ count_by (starts_one_of among) b → count_by (uses_some among) (b ++ x ∷ []) ≡ count_by (starts_one_of among) (b ++ x ∷ [])
  same_counts b x alike same = count_by_push (uses_some among) b x ∙ ap (λ n. n + cond (uses_some among x) 1 0) same ∙ ap (λ t. count_by (starts_one_of among) b + cond t 1 0) alike ∙ sym (count_by_push (starts_one_of among) b x)

  stands_step : (b : List Entry) (x : Entry) → Rule b x → Stands b → Stands (b ++ x ∷ [])
  stands_step b x rule (inr was) = inr (record { line = was.line; below = was.below; stopped = omega (arith, was.stopped, count_by_push (stops_one (start_at h) (of_pipe was.line)) b x) })
  stands_step b (Start task cause ins) rule (inl same) = inl (same_counts b (Start task cause ins) refl same)
  stands_step b (End start gives inner) rule (inl same) = inl (same_counts b (End start gives inner) refl same)
  stands_step b (Fault start why) rule (inl same) = inl (same_counts b (Fault start why) refl same)
  stands_step b (Drop task cause why) rule (inl same) = by_test (among task) refl
    where
      by_test : (t : Bool) → among task ≡ t → Stands (b ++ Drop task cause why ∷ [])
      by_test false outside = inl (same_counts b (Drop task cause why) outside same)
      by_test true inside =
          let lies : LiesAt lines of_pipe task = cycle.lies task inside in
          let task_is : task ≡ of_pipe lies.place = lies.is in
          let hit : eqb task (of_pipe lies.place) ≡ true = grind (arith, nat_tests) in
          inr (record { line = lies.place; below = lies.below; stopped = omega (arith, count_by_push_yes (stops_one (start_at h) (of_pipe lies.place)) b (Drop task cause why) hit) })

  pub standing : EachAfterThese (λ b x. Stands b × Rule b x) [] h × Stands h
  standing = along Rule Stands stands_step [] h (inl refl) rules

  -- ---- a start of the pipe

  module _ (b : List Entry) (task : ℕ) (cause : Cause) (ins : List Part) (stands : Stands b) (rule : Rule b (Start task cause ins)) (inside : among task ≡ true) where
    going : Going lines of_pipe among b
    going = rule.1.0.0.going

    -- the line whose turn it is
    abbrev r : ℕ
    r = turn lines (count_by (uses_some among) b)

    task_is : task ≡ of_pipe r
    task_is = rule.1.1 inside

    strongly : cause ≡ Strong
    strongly = released_strongly net b task cause ringed rule.1.0.1.1.1.in_range.0 rule.1.0.1.1.1.release

    released : IsReleased net b (of_pipe r) Strong
    released = subst (λ t. IsReleased net b t Strong) task_is (subst (λ c. IsReleased net b task c) strongly rule.1.0.1.1.1.release)

    ring_edge : (l : ℕ) → l < lines → EdgeOfRing net (places (is_of_pipe p) (pipe_edges lines pipeline.serials)) (of_pipe l)
    ring_edge l below = pipe_ring_edge lines pipeline.serials l p below serial

    -- no task of the pipe has had a drop or a fault
    none_stopped : (l : ℕ) → l < lines → 1 ≤ count_by (stops_one (start_at h) (of_pipe l)) b → ⊥
    none_stopped l below stopped =
        none_behind net (start_at h) b (places (is_of_pipe p) (pipe_edges lines pipeline.serials)) (of_pipe r) (of_pipe l) ringed rule.1.0.1.0 (pipe_ring lines pipeline.serials p) (ring_edge r going.in_ring) (ring_edge l below) released stopped

    still : count_by (stops_one (start_at h) (of_pipe r)) b ≡ 0
    still = by_count (count_by (stops_one (start_at h) (of_pipe r)) b) refl
      where
        by_count : (n : ℕ) → count_by (stops_one (start_at h) (of_pipe r)) b ≡ n → n ≡ 0
        by_count zero count = refl
        by_count (suc n) count = absurd (none_stopped r going.in_ring (omega (arith, count)))

    abbrev started : ℕ
    started = length (starts_in values (of_pipe r) b)

    -- so the place of its turn is the number of starts before it
    place_is : place_at pipeline r started ≡ count_by (starts_one_of among) b
    place_is = omega (arith, ap (λ n. n * lines) started_is, going.total) ∙ by_stands stands
      where
        never : ltb r r ≡ false
        never = grind (arith, nat_tests)

        started_is : started ≡ going.cycles
        started_is = (rule.0.1.0.ran (of_pipe r)).used_up still released.0 ∙ going.each r going.in_ring ∙ ap (λ t. going.cycles + cond t 1 0) never ∙ omega arith

        by_stands : Stands b → count_by (uses_some among) b ≡ count_by (starts_one_of among) b
        by_stands (inl same) = same
        by_stands (inr was) = absurd (none_stopped was.line was.below was.stopped)

    start_in_order : meets pipeline p task (found_ins values ins) ≡ passed_at pipeline.order (count_by (starts_one_of among) b)
    start_in_order =
        ap (λ t. meets pipeline p t (found_ins values ins)) task_is
        ∙ start_meets pipeline one limit values h is b r p cause ins (subst (λ t. AtEntry pipeline one limit values h is b (Start t cause ins)) task_is rule.0) going.in_ring (slice_get_within pipeline.serials p true serial)
        ∙ ap (passed_at pipeline.order) place_is

  abbrev InOrder : List Entry → Entry → Type 0
  InOrder = MeetsAtTurn pipeline values p among (λ n. n)

  each_in_order : EachAfter InOrder h
  each_in_order = weaker (λ b x. Stands b × Rule b x) InOrder each [] h standing.0
    where
      each : (b : List Entry) (x : Entry) → Stands b × Rule b x → InOrder b x
      each b (Start task cause ins) known = start_in_order b task cause ins known.0 known.1
      each b (End start gives inner) known = tt
      each b (Fault start why) known = tt
      each b (Drop task cause why) known = tt

  -- ---- the tokens

  abbrev Tokens : List Entry → Type 0
  Tokens b = tokens_started pipeline values p b ≡ take (count_by (starts_one_of among) b) pipeline.order.passed

  tokens_still : (b : List Entry) (x : Entry) → token_started pipeline values p (length b) x ≡ [] → starts_one_of among x ≡ false → Tokens b → Tokens (b ++ x ∷ [])
  tokens_still b x none no_start before =
      started_more pipeline values p b x ∙ ap (λ ts. tokens_started pipeline values p b ++ ts) none ∙ append-nil (tokens_started pipeline values p b) ∙ before ∙ ap (λ n. take n pipeline.order.passed) (sym (count_by_push_no (starts_one_of among) b x no_start))

  tokens_step : (b : List Entry) (x : Entry) → InOrder b x → Tokens b → Tokens (b ++ x ∷ [])
  tokens_step b (End start gives inner) rule before = tokens_still b (End start gives inner) refl refl before
  tokens_step b (Fault start why) rule before = tokens_still b (Fault start why) refl refl before
  tokens_step b (Drop task cause why) rule before = tokens_still b (Drop task cause why) refl refl before
  tokens_step b (Start task cause ins) rule before = by_test (among task) refl
    where
      x : Entry
      x = Start task cause ins

      met : List ℕ
      met = token_passed (meets pipeline p task (found_ins values ins))

      by_test : (t : Bool) → among task ≡ t → Tokens (b ++ x ∷ [])
      by_test false outside = tokens_still b x (ap (λ t. cond t met []) outside) outside before
      by_test true inside =
          started_more pipeline values p b x
          ∙ ap (λ t. tokens_started pipeline values p b ++ cond t met []) inside
          ∙ ap (λ m. tokens_started pipeline values p b ++ token_passed m) (rule inside)
          ∙ ap (λ ts. ts ++ token_passed (passed_at pipeline.order (count_by (starts_one_of among) b))) before
          ∙ sym (take_more pipeline.order (count_by (starts_one_of among) b)) ∙ ap (λ n. take n pipeline.order.passed) (sym (count_by_push_yes (starts_one_of among) b x inside))

  pub in_order : IsInOrder pipeline values p h
  in_order = record { each = each_in_order; tokens = (along InOrder Tokens tokens_step [] h refl each_in_order).1 }

pub pipes_keep_order : {J V : Type 0} (meaning : Meaning J V) (run : FrameRun J V) → PipesKeepOrder meaning run
pipes_keep_order meaning run pipeline one is p serial = in_order pipeline one (meaning.limit (job_of run)) (values_of run) (journal_of run) (is_cell_run meaning run pipeline one is) p serial
