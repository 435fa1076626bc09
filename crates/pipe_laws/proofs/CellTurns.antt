-- Each start of a cell meets what the order has at its turn, and each end is of the token that passed there.
use Rattle.std.proofs.Common.{◌≡◌, ℕ, zero, suc, ◌+◌, ◌*◌, ◌<◌, ◌≤◌, Bool, true, false, not, cond, List, [], ◌∷◌, ◌++◌, length, map, get_or, Option, Some, None, sym, refl, ap, ◌∙◌, arith}
use Rattle.std.specs.Prelude.{slice_get, filter, ◌==◌}
use Rattle.std.specs.Option.{option_map_or, option_map}
use Rattle.std.specs.List.{list_any, AllZip}
use Rattle.std.proofs.lemmas.Bool.{false≢true}
use Rattle.std.proofs.lemmas.Option.{slice_get_within, slice_get-get_or, slice_get-map, same_Some}
use Rattle.task_graph.specs.NetRows.{NetRows}
use Rattle.task_graph.specs.Net.{strong_in, out_edges}
use Rattle.task_graph.specs.declared.net.EdgeRow.{EdgeRow}
use Rattle.journal_rules.specs.declared.entry.Entry.{Entry}
use Rattle.journal_rules.specs.declared.entry.Entry.TheVariants.{Start, End, Fault, Drop}
use Rattle.join_words.specs.Ins.{InputValue, value, first}
use Rattle.run_frame.specs.declared.run.ValueRow.{ValueRow}
use Rattle.pipe_lines.specs.declared.order.Order.{Order}
use Rattle.pipe_lines.specs.declared.order.Passed.{Passed}
use Rattle.pipe_lines.specs.declared.order.Passed.TheVariants.{Token, Stop, Unmet}
use Rattle.pipe_lines.specs.Orders.{passed_or, passed_at}
use Rattle.pipe_lines.specs.PipeNet.{PipeEdge, pipe_edges}
use Rattle.pipe_lines.proofs.StepLemmas.{token_within}
use Rattle.run_laws.specs.OneThreadValue.{TaskEnd, OneAnswer, tokens, begun}
use Rattle.run_laws.proofs.Phases.{Phase, ends_few}
use Rattle.run_laws.proofs.Steps.{starts_in, ends_in, tokens_in}
use Rattle.run_laws.proofs.Values.{Ran, Kept, starts_same, ends_same}
use Rattle.text_tasks.specs.Cells.{Pipeline, along_pipe, cell_task, edges_for, line_input, meets, next_place, pipe_input, pipeline_net, token_in}
use Rattle.pipe_laws.specs.Cells.{AreCells}
use Rattle.pipe_laws.proofs.Edges.{ComesFrom, EdgeInto, GoesOn, along_line_into, along_pipe_into, among_out, edges_into, goes_round, goes_up, has_along_line, has_along_pipe, source_is}
use Rattle.run_laws.proofs.Pipes.{row_at}
use Rattle.pipe_laws.proofs.Inputs.{InputAt, filter_front, input_at}

-- ---- places with tokens

pub record HasToken (passed : Passed) : Type 0 where
  pub token : ℕ
  pub is : passed ≡ Token token

-- a place in the list
pub token_there : (order : Order) (n : ℕ) → n < length order.passed → HasToken (passed_at order n)
token_there order n below = record { token = get_or order.passed n 0; is = ap (λ o. passed_or o order.unmet) (slice_get-get_or order.passed n 0 below) }

-- each place before a token has one
before_token : (order : Order) (m n : ℕ) → m ≤ n → HasToken (passed_at order n) → HasToken (passed_at order m)
before_token order m n less has = token_there order m (omega (arith, less, token_within order n has.token has.is))

-- what signals an edge met a token, and the other way round
signals_token : (passed : Passed) (out : List ℕ) (e : ℕ) → list_any (λ g. g == e) (edges_for passed out) ≡ true → HasToken passed
signals_token (Token k) out e gift = record { token = k; is = refl }
signals_token Stop out e gift = absurd (false≢true gift)
signals_token (Unmet k) out e gift = absurd (false≢true gift)

token_signals : (passed : Passed) (out : List ℕ) (e : ℕ) → HasToken passed → list_any (λ g. g == e) out ≡ true → list_any (λ g. g == e) (edges_for passed out) ≡ true
token_signals passed out e has among = ap (λ p. list_any (λ g. g == e) (edges_for p out)) has.is ∙ among

-- ---- the tokens of an edge

-- whether an end signals an edge
abbrev pub signals : {V : Type 0} → ℕ → TaskEnd V → Bool
signals e end = list_any (λ g. g == e) end.gives

-- the k-th token of an edge that was signalled
record Signalled {V : Type 0} (e : ℕ) (ends : List (TaskEnd V)) (k : ℕ) (input : InputValue V) : Type 0 where
  end : TaskEnd V
  at : slice_get (filter (signals e) ends) k ≡ Some end
  is : input ≡ value end.value

signalled_at : {V : Type 0} (e : ℕ) (ends : List (TaskEnd V)) (k : ℕ) (input : InputValue V) → slice_get (map (λ (end : TaskEnd V). value end.value) (filter (signals e) ends)) k ≡ Some input → Signalled e ends k input
signalled_at {V} e ends k input at = by_end (slice_get kept k) refl
  where
    kept : List (TaskEnd V)
    kept = filter (signals e) ends

    by_end : (o : Option (TaskEnd V)) → slice_get kept k ≡ o → Signalled e ends k input
    by_end None is =
        let none : None ≡ Some input = ap (option_map (λ (end : TaskEnd V). value end.value)) (sym is) ∙ sym (slice_get-map (λ (end : TaskEnd V). value end.value) kept k) ∙ at in
        absurd (cc)
    by_end (Some end) is =
        let same : Some (value end.value) ≡ Some input = ap (option_map (λ (end : TaskEnd V). value end.value)) (sym is) ∙ sym (slice_get-map (λ (end : TaskEnd V). value end.value) kept k) ∙ at in
        record { end = end; at = is; is = sym (same_Some _ _ same) }

-- the k-th token of an edge: the one with which it begins, or one that was signalled
data TokenAt {V : Type 0} (e : ℕ) (starts : Bool) (ends : List (TaskEnd V)) (k : ℕ) (input : InputValue V) : Type 0 where
  is_first : starts ≡ true → k ≡ 0 → input ≡ first → TokenAt e starts ends k input
  is_later : (n : ℕ) → starts ≡ true → k ≡ suc n → Signalled e ends n input → TokenAt e starts ends k input
  is_signalled : starts ≡ false → Signalled e ends k input → TokenAt e starts ends k input

token_at : {V : Type 0} (net : NetRows) (e : ℕ) (row : EdgeRow) (ends : List (TaskEnd V)) (k : ℕ) (input : InputValue V) → slice_get net.edges e ≡ Some row → slice_get (tokens net e ends) k ≡ Some input → TokenAt e row.start ends k input
token_at {V} net e row ends k input is at = by_start row.start refl (sym (ap (λ b. slice_get (b ++ signalled) k) begins) ∙ at)
  where
    signalled : List (InputValue V)
    signalled = map (λ (end : TaskEnd V). value end.value) (filter (signals e) ends)

    begins : begun {V = V} net e ≡ cond row.start (first ∷ []) []
    begins = ap (λ o. option_map_or (λ (r : EdgeRow). cond r.start (first ∷ []) []) o []) is

    by_place : row.start ≡ true → (j : ℕ) → k ≡ j → slice_get (first ∷ signalled) j ≡ Some input → TokenAt e row.start ends k input
    by_place starts zero k_is at_j = is_first starts k_is (sym (same_Some _ _ at_j))
    by_place starts (suc n) k_is at_j = is_later n starts k_is (signalled_at e ends n input at_j)

    by_start : (s : Bool) → row.start ≡ s → slice_get (cond s (first ∷ []) [] ++ signalled) k ≡ Some input → TokenAt e row.start ends k input
    by_start true starts at_k = by_place starts k refl at_k
    by_start false starts at_k = is_signalled starts (signalled_at e ends k input at_k)

-- ---- turns

-- the place of line l at its k-th turn
abbrev pub place_at : {V : Type 0} → Pipeline V → ℕ → ℕ → ℕ
place_at pipeline l k = k * pipeline.lines + l

pub places_rise : (i j n l : ℕ) → i ≤ j → i * n + l ≤ j * n + l
places_rise zero j n l less = omega arith
places_rise (suc i) zero n l less = absurd (omega (arith, less))
places_rise (suc i) (suc j) n l less = omega (arith, places_rise i j n l (omega (arith, less)))

-- what the k-th start of line l at pipe p found
abbrev pub StartAtTurn : {V : Type 0} → Pipeline V → ℕ → ℕ → ℕ → List (InputValue V) → Type 0
StartAtTurn pipeline l zero k found = next_place pipeline (pipe_input pipeline (cell_task pipeline l 0) found) ≡ place_at pipeline l k
StartAtTurn pipeline l (suc p) k found = meets pipeline (suc p) (cell_task pipeline l (suc p)) found ≡ passed_at pipeline.order (place_at pipeline l k)

pub meets_turn : {V : Type 0} (pipeline : Pipeline V) (l p k : ℕ) (found : List (InputValue V)) → StartAtTurn pipeline l p k found → meets pipeline p (cell_task pipeline l p) found ≡ passed_at pipeline.order (place_at pipeline l k)
meets_turn pipeline l zero k found is = ap (passed_at pipeline.order) is
meets_turn pipeline l (suc p) k found is = is

-- its k-th end
pub record EndAtTurn {V : Type 0} (pipeline : Pipeline V) (l p k : ℕ) (end : TaskEnd V) : Type 0 where
  pub token : (t : ℕ) → passed_at pipeline.order (place_at pipeline l k) ≡ Token t → pipeline.token end.value ≡ t
  pub place : p ≡ 0 → pipeline.place end.value ≡ place_at pipeline l k
  pub gives : end.gives ≡ edges_for (passed_at pipeline.order (place_at pipeline l k)) (out_edges (pipeline_net pipeline) (cell_task pipeline l p))

pub record AllStarts {V : Type 0} (pipeline : Pipeline V) (values : List (ValueRow V)) (b : List Entry) : Type 0 where
  pub starts : (l p k : ℕ) (found : List (InputValue V)) → l < pipeline.lines → p < length pipeline.serials → slice_get (starts_in values (cell_task pipeline l p) b) k ≡ Some found → StartAtTurn pipeline l p k found

pub record AllEnds {V : Type 0} (pipeline : Pipeline V) (values : List (ValueRow V)) (at : ℕ → Option ℕ) (b : List Entry) : Type 0 where
  pub ends : (l p k : ℕ) (end : TaskEnd V) → l < pipeline.lines → p < length pipeline.serials → slice_get (ends_in values at (cell_task pipeline l p) b) k ≡ Some end → EndAtTurn pipeline l p k end

-- an end at a place with a token, or before one, signals each edge of its cell
pub end_signals : {V : Type 0} (pipeline : Pipeline V) (l p j k e : ℕ) (edge : PipeEdge) (end : TaskEnd V) → EndAtTurn pipeline l p j end → j ≤ k → HasToken (passed_at pipeline.order (place_at pipeline l k))
    → slice_get (pipe_edges pipeline.lines pipeline.serials) e ≡ Some edge → edge.row.from ≡ cell_task pipeline l p → signals e end ≡ true
end_signals pipeline l p j k e edge end turn less has at from =
    ap (list_any (λ g. g == e)) turn.gives
    ∙ token_signals (passed_at pipeline.order (place_at pipeline l j)) (out_edges (pipeline_net pipeline) (cell_task pipeline l p)) e
    (before_token pipeline.order (place_at pipeline l j) (place_at pipeline l k) (places_rise j k pipeline.lines l less) has)
    (among_out pipeline.lines pipeline.serials (cell_task pipeline l p) e edge at from)

module _ {V : Type 0} (pipeline : Pipeline V) (one : OneAnswer V) (cells : AreCells pipeline one) (first_serial : slice_get pipeline.serials 0 ≡ Some true) (values : List (ValueRow V)) (at : ℕ → Option ℕ) where
  abbrev net : NetRows
  net = pipeline_net pipeline

  abbrev lines : ℕ
  lines = pipeline.lines

  abbrev serials : List Bool
  serials = pipeline.serials

  abbrev task : ℕ → ℕ → ℕ
  task = cell_task pipeline

  abbrev passes : ℕ → ℕ → Passed
  passes l k = passed_at pipeline.order (place_at pipeline l k)

  end_at_turn : (l p k : ℕ) (found : List (InputValue V)) (end : TaskEnd V) → l < lines → p < length serials → one (task l p) found ≡ Some end → StartAtTurn pipeline l p k found → EndAtTurn pipeline l p k end
  end_at_turn l p k found end in_l in_p is turn = record {
    token = λ t met. cells.token l p t found end in_l in_p is (meets_turn pipeline l p k found turn ∙ met);
    place = λ at_first. by_pipe p at_first is turn;
    gives = cells.gives l p found end in_l in_p is ∙ ap (λ m. edges_for m (out_edges net (task l p))) (meets_turn pipeline l p k found turn);
  }
    where
      by_pipe : (q : ℕ) → q ≡ 0 → one (task l q) found ≡ Some end → StartAtTurn pipeline l q k found → pipeline.place end.value ≡ place_at pipeline l k
      by_pipe zero at_first is_q turn_q = cells.place l found end in_l is_q ∙ turn_q
      by_pipe (suc q) at_first is_q turn_q = absurd (omega (arith, at_first))

  -- what ended had started
  pub ends_by_starts : (b : List Entry) → Kept net one values at b → ((t : ℕ) → Phase at t b) → AllStarts pipeline values b → AllEnds pipeline values at b
  ends_by_starts b kept phases all = record { ends = each }
    where
      each : (l p k : ℕ) (end : TaskEnd V) → l < lines → p < length serials → slice_get (ends_in values at (task l p) b) k ≡ Some end → EndAtTurn pipeline l p k end
      each l p k end in_l in_p at_k = end_at_turn l p k found end in_l in_p (ran.answered k found end at_start at_k) (all.starts l p k found in_l in_p at_start)
        where
          ran : Ran net one values at (task l p) b (starts_in values (task l p) b) (ends_in values at (task l p) b)
          ran = kept.ran (task l p)

          found : List (InputValue V)
          found = get_or (starts_in values (task l p) b) k []

          at_start : slice_get (starts_in values (task l p) b) k ≡ Some found
          at_start = slice_get-get_or (starts_in values (task l p) b) k [] (omega (arith, slice_get_within _ k end at_k, ran.ended, ran.begun, ends_few at (task l p) b (phases (task l p))))

  -- the k-th end that signalled an edge is the k-th end
  pub end_signalled : (b : List Entry) (l p k e : ℕ) (edge : PipeEdge) (end : TaskEnd V) → AllEnds pipeline values at b → l < lines → p < length serials → slice_get (pipe_edges lines serials) e ≡ Some edge → edge.row.from ≡ task l p
      → slice_get (filter (signals e) (ends_in values at (task l p) b)) k ≡ Some end → (slice_get (ends_in values at (task l p) b) k ≡ Some end) × HasToken (passes l k)
  end_signalled b l p k e edge end all in_l in_p at_e from at_k =
      let kept : (slice_get (ends_in values at (task l p) b) k ≡ Some end) × (signals e end ≡ true) = filter_front (signals e) (ends_in values at (task l p) b) front k end at_k in
      (kept.0, token_of k end (all.ends l p k end in_l in_p kept.0) kept.1)
    where
      token_of : (j : ℕ) (x : TaskEnd V) → EndAtTurn pipeline l p j x → signals e x ≡ true → HasToken (passes l j)
      token_of j x turn gift = signals_token (passes l j) (out_edges net (task l p)) e (sym (ap (list_any (λ g. g == e)) turn.gives) ∙ gift)

      front : (i j : ℕ) (x y : TaskEnd V) → i < j → slice_get (ends_in values at (task l p) b) i ≡ Some x → slice_get (ends_in values at (task l p) b) j ≡ Some y → signals e y ≡ true → signals e x ≡ true
      front i j x y less at_i at_j gift = end_signals pipeline l p i j e edge x (all.ends l p i x in_l in_p at_i) (omega (arith, less)) (token_of j y (all.ends l p j y in_l in_p at_j) gift) at_e from

  -- and its place has a token
  pub record SignalsAtTurn (l p k : ℕ) (end : TaskEnd V) : Type 0 where
    pub has : HasToken (passes l k)
    pub turn : EndAtTurn pipeline l p k end

  pub signals_at_turn : (b : List Entry) (l p k e : ℕ) (edge : PipeEdge) (end : TaskEnd V) → AllEnds pipeline values at b → l < lines → p < length serials → slice_get (pipe_edges lines serials) e ≡ Some edge → edge.row.from ≡ task l p
      → slice_get (filter (signals e) (ends_in values at (task l p) b)) k ≡ Some end → SignalsAtTurn l p k end
  signals_at_turn b l p k e edge end all in_l in_p at_e from at_k =
      let there = end_signalled b l p k e edge end all in_l in_p at_e from at_k in
      record { has = there.1; turn = all.ends l p k end in_l in_p there.0 }

  -- ---- one start more

  module _ (b : List Entry) (x : Entry) (ended : AllEnds pipeline values at b) (still : (t : ℕ) → ends_in values at t (b ++ x ∷ []) ≡ ends_in values at t b) where
    abbrev Finds : ℕ → ℕ → InputValue V → Type 0
    Finds k e input = slice_get (tokens_in net values at e (b ++ x ∷ [])) k ≡ Some input

    -- the k-th token of an edge from a cell
    from_cell : (e t k : ℕ) (edge : PipeEdge) (input : InputValue V) → slice_get (pipe_edges lines serials) e ≡ Some edge → edge.row.from ≡ t → Finds k e input → TokenAt e edge.row.start (ends_in values at t b) k input
    from_cell e t k edge input at_e from found = token_at net e edge.row (ends_in values at t b) k input (row_at lines serials e edge at_e) (sym (ap (λ ts. slice_get ts k) tokens_are) ∙ found)
      where
        tokens_are : tokens_in net values at e (b ++ x ∷ []) ≡ tokens net e (ends_in values at t b)
        tokens_are = ap (λ r. tokens net e (ends_in values at r (b ++ x ∷ []))) (source_is lines serials e edge at_e ∙ from) ∙ ap (tokens net e) (still t)

    first_pipe : (l k : ℕ) (found : List (InputValue V)) → l < lines → 0 < length serials → InputAt (along_pipe pipeline) (EdgeInto lines serials (task l 0)) (Finds k) (pipe_input pipeline (task l 0) found) → StartAtTurn pipeline l 0 k found
    first_pipe l k found in_l some along = by_token from.round (from_cell along.edge (task from.before 0) k from.edge input from.at from.from along.found)
      where
        input : InputValue V
        input = pipe_input pipeline (task l 0) found

        from : ComesFrom lines serials lines (λ m. task m 0) l along.edge
        from = along_pipe_into lines serials l 0 along.edge some along.is along.passes

        behind : (j : ℕ) → Signalled along.edge (ends_in values at (task from.before 0) b) j input → next_place pipeline input ≡ place_at pipeline from.before j + 1
        behind j was =
            let signalled : SignalsAtTurn from.before 0 j was.end = signals_at_turn b from.before 0 j along.edge from.edge was.end ended from.below some from.at from.from was.at in
            ap (next_place pipeline) was.is
            ∙ omega (arith, signalled.turn.place refl, token_within pipeline.order (place_at pipeline from.before j) signalled.has.token signalled.has.is, cells.few)

        by_token : GoesOn lines from.before l from.edge.row.start → TokenAt along.edge from.edge.row.start (ends_in values at (task from.before 0) b) k input → next_place pipeline input ≡ place_at pipeline l k
        by_token (goes_round starts l_is last) (is_first s k_is input_is) = ap (next_place pipeline) input_is ∙ sym (ap (λ i. i * lines + l) k_is ∙ omega (arith, l_is))
        by_token (goes_round starts l_is last) (is_later j s k_is was) = behind j was ∙ omega (arith, last, l_is, more) ∙ sym (ap (λ i. i * lines + l) k_is)
          where
            more : suc j * lines ≡ j * lines + lines
            more = omega arith
        by_token (goes_round starts l_is last) (is_signalled s was) = absurd (false≢true (sym s ∙ starts))
        by_token (goes_up starts l_is) (is_first s k_is input_is) = absurd (false≢true (sym starts ∙ s))
        by_token (goes_up starts l_is) (is_later j s k_is was) = absurd (false≢true (sym starts ∙ s))
        by_token (goes_up starts l_is) (is_signalled s was) = behind k was ∙ omega (arith, l_is)

    later_pipe : (l p k : ℕ) (found : List (InputValue V)) → l < lines → suc p < length serials → InputAt (λ e. not (along_pipe pipeline e)) (EdgeInto lines serials (task l (suc p))) (Finds k) (line_input pipeline (task l (suc p)) found) → StartAtTurn pipeline l (suc p) k found
    later_pipe l p k found in_l in_p along = by_token from.round (from_cell along.edge (task l from.before) k from.edge input from.at from.from along.found)
      where
        input : InputValue V
        input = line_input pipeline (task l (suc p)) found

        tag : along_pipe pipeline along.edge ≡ false
        tag = by_tag (along_pipe pipeline along.edge) along.passes
          where
            by_tag : (t : Bool) → not t ≡ true → t ≡ false
            by_tag false h = refl
            by_tag true h = absurd (false≢true h)

        from : ComesFrom lines serials (length serials) (task l) (suc p) along.edge
        from = along_line_into lines serials l (suc p) along.edge in_p along.is tag

        by_token : GoesOn (length serials) from.before (suc p) from.edge.row.start → TokenAt along.edge from.edge.row.start (ends_in values at (task l from.before) b) k input → Token (token_in pipeline input) ≡ passes l k
        by_token (goes_round starts p_is last) token = absurd (omega (arith, p_is))
        by_token (goes_up starts p_is) (is_first s k_is input_is) = absurd (false≢true (sym starts ∙ s))
        by_token (goes_up starts p_is) (is_later j s k_is was) = absurd (false≢true (sym starts ∙ s))
        by_token (goes_up starts p_is) (is_signalled s was) =
            let signalled : SignalsAtTurn l from.before k was.end = signals_at_turn b l from.before k along.edge from.edge was.end ended in_l from.below from.at from.from was.at in
            ap (λ i. Token (token_in pipeline i)) was.is ∙ ap Token (signalled.turn.token signalled.has.token signalled.has.is) ∙ sym signalled.has.is

    start_at_turn : (l p k : ℕ) (found : List (InputValue V)) → l < lines → p < length serials → AllZip (Finds k) (strong_in net (task l p)) found → StartAtTurn pipeline l p k found
    start_at_turn l zero k found in_l in_p zip = first_pipe l k found in_l in_p (input_at (along_pipe pipeline) (EdgeInto lines serials (task l 0)) (Finds k) (strong_in net (task l 0)) found (edges_into lines serials (task l 0)) zip (has_along_pipe lines serials l 0 in_l first_serial))
    start_at_turn l (suc p) k found in_l in_p zip =
        later_pipe l p k found in_l in_p (input_at (λ e. not (along_pipe pipeline e)) (EdgeInto lines serials (task l (suc p))) (Finds k) (strong_in net (task l (suc p))) found (edges_into lines serials (task l (suc p))) zip (has_along_line lines serials l (suc p) in_l in_p))

  -- another entry leaves the starts as they were
  starts_still : (b : List Entry) (x : Entry) → ((t : ℕ) → starts_in values t (b ++ x ∷ []) ≡ starts_in values t b) → AllStarts pipeline values b → AllStarts pipeline values (b ++ x ∷ [])
  starts_still b x same all = record { starts = λ l p k found in_l in_p at_k. all.starts l p k found in_l in_p (sym (ap (λ ss. slice_get ss k) (same (task l p))) ∙ at_k) }

  pub starts_step : (b : List Entry) (x : Entry) → Kept net one values at b → Kept net one values at (b ++ x ∷ []) → ((t : ℕ) → Phase at t b) → AllStarts pipeline values b → AllStarts pipeline values (b ++ x ∷ [])
  starts_step b (End start gives inner) kept kept_now phases all = starts_still b (End start gives inner) (λ t. starts_same values t b (End start gives inner) refl) all
  starts_step b (Fault start why) kept kept_now phases all = starts_still b (Fault start why) (λ t. starts_same values t b (Fault start why) refl) all
  starts_step b (Drop t cause why) kept kept_now phases all = starts_still b (Drop t cause why) (λ s. starts_same values s b (Drop t cause why) refl) all
  starts_step b (Start t cause ins) kept kept_now phases all = record {
    starts = λ l p k found in_l in_p at_k.
        start_at_turn b (Start t cause ins) (ends_by_starts b kept phases all) (λ s. ends_same values at s b (Start t cause ins) refl) l p k found in_l in_p (kept_now.finds (task l p) k found at_k);
  }

  pub no_starts : AllStarts pipeline values []
  no_starts = record { starts = λ l p k found in_l in_p at_k. absurd (none k found at_k) }
    where
      none : (k : ℕ) (found : List (InputValue V)) → slice_get {X = List (InputValue V)} [] k ≡ Some found → ⊥
      none k found at_k = cc
