-- In a complete run in which nothing was cut short all tokens pass all pipes.
use Rattle.std.proofs.Common.{◌≡◌, ◌⊎◌, inl, inr, ℕ, zero, suc, ◌+◌, ◌*◌, ◌%◌, ◌/◌, ◌<◌, ◌≤◌, Bool, true, false, ◌||◌, cond, eqb, ltb, List, [], ◌∷◌, ◌++◌, length, get_or, Option, Some, None, sym, refl, ap, subst, ◌∙◌, arith}
use Rattle.std.specs.Prelude.{slice_get, count_by, ◌==◌}
use Rattle.std.proofs.Math.Nat.{mod-add-div', mod-lt}
use Rattle.std.proofs.lemmas.Bool.Decides.{nat_tests}
use Rattle.std.proofs.lemmas.Bool.{cases_lt, false≢true}
use Rattle.std.proofs.lemmas.List.{take_all}
use Rattle.std.proofs.lemmas.List.Folds.{list_any-append}
use Rattle.std.proofs.lemmas.Option.{slice_get_within, slice_get_past, slice_get-get_or, same_Some}
use Rattle.task_graph.specs.NetRows.{NetRows}
use Rattle.journal_rules.specs.declared.entry.Entry.{Entry}
use Rattle.journal_rules.specs.declared.entry.Entry.TheVariants.{Start, End, Fault, Drop}
use Rattle.journal_rules.specs.Counts.{start_at}
use Rattle.journal_rules.specs.Complete.{Complete}
use Rattle.join_words.specs.Ins.{InputValue}
use Rattle.run_frame.specs.declared.run.ValueRow.{ValueRow}
use Rattle.run_frame.specs.declared.run.FrameRun.{FrameRun}
use Rattle.run_frame.specs.Meaning.{Meaning}
use Rattle.run_frame.specs.Runs.{IsFine, found_ins, values_of}
use Rattle.run_frame.specs.NestedRule.{job_of, journal_of}
use Rattle.pipe_lines.specs.declared.order.Order.{Order}
use Rattle.pipe_lines.specs.declared.order.Passed.TheVariants.{Token, Unmet}
use Rattle.pipe_lines.specs.Orders.{end_of, passed_or, passed_at}
use Rattle.pipe_lines.specs.PassOrder.{has_passed}
use Rattle.run_laws.specs.OneThreadValue.{TaskEnd, OneAnswer}
use Rattle.run_laws.specs.Ends.{gather}
use Rattle.run_laws.specs.Cycles.{LiesAt, turn, uses_some}
use Rattle.run_laws.proofs.Along.{along}
use Rattle.run_laws.proofs.Order.{Going, rounds_along}
use Rattle.run_laws.proofs.Pipes.{pipes_ringed}
use Rattle.run_laws.proofs.PipeCycles.{found_from, lies_at}
use Rattle.run_laws.proofs.Steps.{start_of, starts_in, ends_in}
use Rattle.run_laws.proofs.Through.{Passing, any_at, any_passes}
use Rattle.run_laws.proofs.Whole.{all_ended, unstopped}
use Rattle.text_tasks.specs.Cells.{Pipeline, cell_task, meets, pipeline_net}
use Rattle.pipe_laws.specs.Turns.{in_pipe, starts_one_of, token_passed, token_started, tokens_started}
use Rattle.pipe_laws.specs.Laws.{PassAllPipes}
use Rattle.pipe_laws.proofs.CellTurns.{meets_turn}
use Rattle.pipe_laws.proofs.CellRuns.{AtEntry, IsCellRun, all_starts, at_entries, is_cell_run, kept, turn_at}
use Rattle.pipe_laws.proofs.Counted.{all_counted}
use Rattle.pipe_laws.proofs.Through.{end_place, finished, in_net, some_pipes, starts_at_place}
use Rattle.pipe_laws.proofs.Ordered.{Stands, cycle, in_order, standing, started_more}

same_number : (k : ℕ) → eqb k k ≡ true
same_number k = grind (arith, nat_tests)

or_cases : (a b : Bool) → a || b ≡ true → (a ≡ true) ⊎ (b ≡ true)
or_cases true b is = inl refl
or_cases false b is = inr is

or_left : (a b : Bool) → a ≡ true → a || b ≡ true
or_left a b is = ap (λ c. c || b) is

or_right : (a b : Bool) → b ≡ true → a || b ≡ true
or_right true b is = refl
or_right false b is = is

both_ways : (a b : Bool) → (a ≡ true → b ≡ true) → (b ≡ true → a ≡ true) → a ≡ b
both_ways true b on back = sym (on refl)
both_ways false true on back = back refl
both_ways false false on back = refl

-- a token at a place of the order is one of it
token_of_order : (order : Order) (n k : ℕ) → has_passed (token_passed (passed_at order n)) k ≡ true → has_passed order.passed k ≡ true
token_of_order order n k has = by_place (slice_get order.passed n) refl has
  where
    none_behind_end : (unmet : Option ℕ) → has_passed (token_passed (end_of unmet)) k ≡ true → ⊥
    none_behind_end None is = false≢true is
    none_behind_end (Some u) is = false≢true is

    by_place : (o : Option ℕ) → slice_get order.passed n ≡ o → has_passed (token_passed (passed_or o order.unmet)) k ≡ true → has_passed order.passed k ≡ true
    by_place None at is = absurd (none_behind_end order.unmet is)
    by_place (Some q) at is = by_head (or_cases (eqb q k) false is)
      where
        by_head : (eqb q k ≡ true) ⊎ (false ≡ true) → has_passed order.passed k ≡ true
        by_head (inl hit) = any_at (λ r. r == k) order.passed n q at hit
        by_head (inr never) = absurd (false≢true never)

-- each number is a place of a line
pub record TurnOf (lines n : ℕ) : Type 0 where
  pub line : ℕ
  pub round : ℕ
  pub below : line < lines
  pub is : round * lines + line ≡ n

pub turn_of : (lines n : ℕ) → 1 ≤ lines → TurnOf lines n
turn_of lines n some = record { line = n % lines; round = n / lines; below = mod-lt n some; is = omega (arith, mod-add-div' n lines) }

module _ {V : Type 0} (pipeline : Pipeline V) (values : List (ValueRow V)) (p : ℕ) where
  abbrev Starts : ℕ → ℕ → List Entry → Type 0
  Starts k n h = has_passed (gather (token_started pipeline values p) n h) k ≡ true

  starts_later : (k n : ℕ) (x : Entry) (rest : List Entry) → Starts k (suc n) rest → Starts k n (x ∷ rest)
  starts_later k n x rest later =
      list_any-append (λ q. q == k) (token_started pipeline values p n x) (gather (token_started pipeline values p) (suc n) rest) ∙ or_right (has_passed (token_started pipeline values p n x) k) _ later

  starts_now : (k n : ℕ) (x : Entry) (rest : List Entry) → token_started pipeline values p n x ≡ k ∷ [] → Starts k n (x ∷ rest)
  starts_now k n x rest now =
      list_any-append (λ q. q == k) (token_started pipeline values p n x) (gather (token_started pipeline values p) (suc n) rest)
      ∙ or_left (has_passed (token_started pipeline values p n x) k) _ (ap (λ ts. has_passed ts k) now ∙ or_left (eqb k k) false (same_number k))

  -- a start of the pipe that meets a token starts it
  found_started : (t k i n : ℕ) (found : List (InputValue V)) → in_pipe pipeline p t ≡ true → meets pipeline p t found ≡ Token k → (h : List Entry) → slice_get (gather (start_of values t) n h) i ≡ Some found → Starts k n h
  found_started t k i n found inside met [] at = absurd (cc)
  found_started t k i n found inside met (End start gives inner ∷ rest) at = starts_later k n (End start gives inner) rest (found_started t k i (suc n) found inside met rest at)
  found_started t k i n found inside met (Fault start why ∷ rest) at = starts_later k n (Fault start why) rest (found_started t k i (suc n) found inside met rest at)
  found_started t k i n found inside met (Drop task cause why ∷ rest) at = starts_later k n (Drop task cause why) rest (found_started t k i (suc n) found inside met rest at)
  found_started t k i n found inside met (Start task cause ins ∷ rest) at = by_task (eqb task t) refl i at (λ j at_j. found_started t k j (suc n) found inside met rest at_j)
    where
      by_task : (b : Bool) → eqb task t ≡ b → (j : ℕ) → slice_get (cond b (found_ins values ins ∷ []) [] ++ gather (start_of values t) (suc n) rest) j ≡ Some found
          → ((m : ℕ) → slice_get (gather (start_of values t) (suc n) rest) m ≡ Some found → Starts k (suc n) rest) → Starts k n (Start task cause ins ∷ rest)
      by_task false other j at_j more = starts_later k n (Start task cause ins) rest (more j at_j)
      by_task true hit (suc j) at_j more = starts_later k n (Start task cause ins) rest (more j at_j)
      by_task true hit zero at_j more =
          let task_is : task ≡ t = grind (arith, nat_tests) in
          let found_is : found_ins values ins ≡ found = same_Some _ _ at_j in
          starts_now k n (Start task cause ins) rest
          (
          ap (λ b. cond b (token_passed (meets pipeline p task (found_ins values ins))) []) (ap (in_pipe pipeline p) task_is ∙ inside) ∙ ap (λ s. token_passed (meets pipeline p s (found_ins values ins))) task_is ∙ ap (λ f. token_passed (meets pipeline p t f)) found_is
          ∙ ap token_passed met
          )

module _ {V : Type 0} (pipeline : Pipeline V) (one : OneAnswer V) (limit : ℕ) (values : List (ValueRow V)) (h : List Entry) (is : IsCellRun pipeline one limit values h) where
  abbrev net : NetRows
  net = pipeline_net pipeline

  abbrev lines : ℕ
  lines = pipeline.lines

  abbrev task : ℕ → ℕ → ℕ
  task = cell_task pipeline

  -- ---- the tokens that a pipe starts are some of the order

  abbrev OfOrder : ℕ → List Entry → Type 0
  OfOrder p b = (k : ℕ) → has_passed (tokens_started pipeline values p b) k ≡ true → has_passed pipeline.order.passed k ≡ true

  of_order_step : (p : ℕ) → p < length pipeline.serials → (b : List Entry) (x : Entry) → AtEntry pipeline one limit values h is b x → OfOrder p b → OfOrder p (b ++ x ∷ [])
  of_order_step p in_p b x known before k has =
      by_part (or_cases (has_passed (tokens_started pipeline values p b) k) (has_passed (token_started pipeline values p (length b) x) k)
      (sym (ap (λ ts. has_passed ts k) (started_more pipeline values p b x) ∙ list_any-append (λ q. q == k) (tokens_started pipeline values p b) (token_started pipeline values p (length b) x)) ∙ has))
    where
      by_entry : (y : Entry) → AtEntry pipeline one limit values h is b y → has_passed (token_started pipeline values p (length b) y) k ≡ true → has_passed pipeline.order.passed k ≡ true
      by_entry (End start gives inner) known_y last = absurd (false≢true last)
      by_entry (Fault start why) known_y last = absurd (false≢true last)
      by_entry (Drop t cause why) known_y last = absurd (false≢true last)
      by_entry (Start t cause ins) known_y last = by_pipe (in_pipe pipeline p t) refl last
        where
          by_pipe : (s : Bool) → in_pipe pipeline p t ≡ s → has_passed (cond s (token_passed (meets pipeline p t (found_ins values ins))) []) k ≡ true → has_passed pipeline.order.passed k ≡ true
          by_pipe false outside last_is = absurd (false≢true last_is)
          by_pipe true inside last_is =
              let lies : LiesAt lines (λ l. task l p) t = lies_at lines (λ l. task l p) t inside in
              let t_is : t ≡ task lies.place p = lies.is in
              let hit : eqb t (task lies.place p) ≡ true = grind (arith, nat_tests) in
              token_of_order pipeline.order _ k (sym (ap (λ m. has_passed (token_passed m) k) (turn_at pipeline one limit values h is lies.place p lies.below in_p b (Start t cause ins) known_y hit)) ∙ last_is)

      by_part : (has_passed (tokens_started pipeline values p b) k ≡ true) ⊎ (has_passed (token_started pipeline values p (length b) x) k ≡ true) → has_passed pipeline.order.passed k ≡ true
      by_part (inl early) = before k early
      by_part (inr last) = by_entry x known last

  of_order : (p : ℕ) → p < length pipeline.serials → OfOrder p h
  of_order p in_p = (along (AtEntry pipeline one limit values h is) (OfOrder p) (of_order_step p in_p) [] h (λ k has. absurd (false≢true has)) (at_entries pipeline one limit values h is)).1

  -- ---- each token of the order is started

  module _ (complete : Complete (pipeline_net pipeline) limit h) (fine : IsFine h) where
    -- a start at a place of a pipe
    record StartedAt (l p n : ℕ) : Type 0 where
      round : ℕ
      found : List (InputValue V)
      at : slice_get (starts_in values (task l p) h) round ≡ Some found
      met : meets pipeline p (task l p) found ≡ passed_at pipeline.order n

    started_at : (p n : ℕ) → p < length pipeline.serials → n < length pipeline.order.passed + end_place p → (turn : TurnOf lines n) → StartedAt turn.line p n
    started_at p n in_p short turn = record { round = turn.round; found = found; at = at; met = meets_turn pipeline turn.line p turn.round found ((all_starts pipeline one limit values h is).starts turn.line p turn.round found turn.below in_p at) ∙ ap (passed_at pipeline.order) turn.is }
      where
        found : List (InputValue V)
        found = get_or (starts_in values (task turn.line p) h) turn.round []

        at : slice_get (starts_in values (task turn.line p) h) turn.round ≡ Some found
        at = slice_get-get_or (starts_in values (task turn.line p) h) turn.round [] (omega (arith, starts_at_place pipeline one limit values h is complete fine turn.line p turn.round turn.below in_p (omega (arith, short, turn.is))))

    each_started : (p k : ℕ) → p < length pipeline.serials → has_passed pipeline.order.passed k ≡ true → has_passed (tokens_started pipeline values p h) k ≡ true
    each_started p k in_p has = found_started pipeline values p (task turn.line p) k start.round 0 start.found inside (start.met ∙ ap (λ o. passed_or o pipeline.order.unmet) passing.at ∙ ap Token token_is) h start.at
      where
        passing : Passing (λ q. q == k) pipeline.order.passed
        passing = any_passes (λ q. q == k) pipeline.order.passed has

        turn : TurnOf lines passing.place
        turn = turn_of lines passing.place is.some_lines

        start : StartedAt turn.line p passing.place
        start = started_at p passing.place in_p (omega (arith, slice_get_within pipeline.order.passed passing.place passing.item passing.at)) turn

        token_is : passing.item ≡ k
        token_is = let hit : eqb passing.item k ≡ true = passing.hit in grind (arith, nat_tests)

        inside : in_pipe pipeline p (task turn.line p) ≡ true
        inside = found_from (λ l. task l p) (task turn.line p) 0 lines turn.line (omega arith) (omega (arith, turn.below)) refl

    -- ---- no token is left

    none_left : pipeline.order.unmet ≡ None
    none_left = by_unmet pipeline.order.unmet refl
      where
        turn : TurnOf lines (length pipeline.order.passed)
        turn = turn_of lines (length pipeline.order.passed) is.some_lines

        start : StartedAt turn.line 0 (length pipeline.order.passed)
        start = started_at 0 (length pipeline.order.passed) (some_pipes pipeline is.first_serial) (omega arith) turn

        by_unmet : (o : Option ℕ) → pipeline.order.unmet ≡ o → o ≡ None
        by_unmet None left = refl
        by_unmet (Some u) left = absurd (by_end (slice_get (ends_in values (start_at h) (task turn.line 0) h) start.round) refl)
          where
            met : meets pipeline 0 (task turn.line 0) start.found ≡ Unmet u
            met = start.met ∙ ap (λ o. passed_or o pipeline.order.unmet) (slice_get_past pipeline.order.passed (length pipeline.order.passed) (omega arith)) ∙ ap end_of left

            ended : start.round < length (ends_in values (start_at h) (task turn.line 0) h)
            ended = omega (arith, slice_get_within _ start.round start.found start.at, all_ended net limit one values h is.given (finished pipeline one limit values h is complete fine) (task turn.line 0))

            by_end : (o : Option (TaskEnd V)) → slice_get (ends_in values (start_at h) (task turn.line 0) h) start.round ≡ o → ⊥
            by_end None at = none_past (ends_in values (start_at h) (task turn.line 0) h) start.round at ended
              where
                none_past : (xs : List (TaskEnd V)) (j : ℕ) → slice_get xs j ≡ None → j < length xs → ⊥
                none_past [] j none less = omega (arith, less)
                none_past (x ∷ xs) zero none less = cc
                none_past (x ∷ xs) (suc j) none less = none_past xs j none (omega (arith, less))
            by_end (Some e) at =
                let answered : one (task turn.line 0) start.found ≡ Some e = ((kept pipeline one limit values h is).ran (task turn.line 0)).answered start.round start.found e start.at at in
                let unanswered : one (task turn.line 0) start.found ≡ None = is.cells.unmet turn.line u start.found turn.below met in
                cc

    -- ---- a serial pipe starts all of them in their order

    module _ (p : ℕ) (serial : slice_get pipeline.serials p ≡ Some true) where
      abbrev among : ℕ → Bool
      among = in_pipe pipeline p

      going : Going lines (λ l. task l p) among h
      going = (rounds_along net limit lines (λ l. task l p) among h (pipes_ringed lines pipeline.serials) (cycle pipeline one limit values h is p serial) is.given.shape).1.going

      abbrev r : ℕ
      r = turn lines (count_by (uses_some among) h)

      started_is : length (starts_in values (task r p) h) ≡ going.cycles
      started_is =
          ((kept pipeline one limit values h is).ran (task r p)).used_up (unstopped net limit h is.given.shape fine (task r p)) ((pipes_ringed lines pipeline.serials).fed (task r p) (in_net pipeline r p going.in_ring (slice_get_within pipeline.serials p true serial)))
          ∙ going.each r going.in_ring ∙ ap (λ t. going.cycles + cond t 1 0) never ∙ omega arith
        where
          never : ltb r r ≡ false
          never = grind (arith, nat_tests)

      enough_uses : length pipeline.order.passed ≤ count_by (uses_some among) h
      enough_uses = by_count (cases_lt (count_by (uses_some among) h) (length pipeline.order.passed))
        where
          by_count : (count_by (uses_some among) h < length pipeline.order.passed) ⊎ (length pipeline.order.passed ≤ count_by (uses_some among) h) → length pipeline.order.passed ≤ count_by (uses_some among) h
          by_count (inr enough) = enough
          by_count (inl short) = absurd (omega (arith, started_is, starts_at_place pipeline one limit values h is complete fine r p going.cycles going.in_ring (slice_get_within pipeline.serials p true serial) (omega (arith, short, going.total))))

      all_in_order : tokens_started pipeline values p h ≡ pipeline.order.passed
      all_in_order = (in_order pipeline one limit values h is p serial).tokens ∙ take_all (count_by (starts_one_of among) h) pipeline.order.passed (by_stands (standing pipeline one limit values h is p serial).1)
        where
          by_stands : Stands pipeline one limit values h is p serial h → length pipeline.order.passed ≤ count_by (starts_one_of among) h
          by_stands (inl same) = omega (arith, enough_uses, same)
          by_stands (inr was) = absurd (omega (arith, was.stopped, unstopped net limit h is.given.shape fine (task was.line p)))

pub tokens_pass_all_pipes : {J V : Type 0} (meaning : Meaning J V) (run : FrameRun J V) → PassAllPipes meaning run
tokens_pass_all_pipes {J} {V} meaning run pipeline one is complete fine = record {
  none_left = none_left pipeline one (meaning.limit (job_of run)) (values_of run) (journal_of run) cell_run done fine;
  in_order = λ p serial. all_in_order pipeline one (meaning.limit (job_of run)) (values_of run) (journal_of run) cell_run done fine p serial;
  each_pipe = λ p k in_p. both_ways _ _ (of_order pipeline one (meaning.limit (job_of run)) (values_of run) (journal_of run) cell_run p in_p k) (each_started pipeline one (meaning.limit (job_of run)) (values_of run) (journal_of run) cell_run done fine p k in_p);
  count = all_counted pipeline one (meaning.limit (job_of run)) (values_of run) (journal_of run) cell_run done fine;
}
  where
    cell_run : IsCellRun pipeline one (meaning.limit (job_of run)) (values_of run) (journal_of run)
    cell_run = is_cell_run meaning run pipeline one is

    done : Complete (pipeline_net pipeline) (meaning.limit (job_of run)) (journal_of run)
    done = subst (λ net. Complete net (meaning.limit (job_of run)) (journal_of run)) is.net complete
