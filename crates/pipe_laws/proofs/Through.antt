-- In a complete run in which nothing was cut short each cell starts at each place before the end.
use Rattle.std.proofs.Common.{◌≡◌, ◌≢◌, ℕ, zero, suc, ◌+◌, ◌*◌, ◌<◌, ◌≤◌, Bool, true, false, cond, List, [], ◌∷◌, length, map, Some, sym, refl, ap, ◌∙◌, arith, length-append}
use Rattle.std.specs.Prelude.{slice_get, filter}
use Rattle.std.specs.Option.{option_map_or}
use Rattle.std.proofs.lemmas.List.{length-map, length-replicate}
use Rattle.std.proofs.lemmas.Option.{slice_get_within}
use Rattle.task_graph.specs.NetRows.{NetRows}
use Rattle.task_graph.specs.Net.{strong_in}
use Rattle.task_graph.specs.declared.net.EdgeRow.{EdgeRow}
use Rattle.journal_rules.specs.declared.entry.Entry.{Entry}
use Rattle.journal_rules.specs.Counts.{given, used, start_at}
use Rattle.journal_rules.specs.Complete.{Complete, least}
use Rattle.journal_rules.proofs.Reaching.{at_below}
use Rattle.join_words.specs.Ins.{InputValue, value, first}
use Rattle.run_frame.specs.declared.run.ValueRow.{ValueRow}
use Rattle.run_frame.specs.Runs.{IsFine}
use Rattle.pipe_lines.specs.PipeNet.{PipeEdge, cell_row, pipe_edges}
use Rattle.run_laws.specs.OneThreadValue.{TaskEnd, OneAnswer, begun, tokens}
use Rattle.run_laws.proofs.Lists.{all_weaken}
use Rattle.run_laws.proofs.Steps.{starts_in, ends_in}
use Rattle.run_laws.proofs.Pipes.{pipes_ringed, row_at}
use Rattle.run_laws.proofs.Whole.{Finished, all_ended, least_above, unstopped}
use Rattle.text_tasks.specs.Cells.{Pipeline, along_pipe, cell_task, pipeline_net}
use Rattle.pipe_laws.proofs.Edges.{ComesFrom, EdgeInto, GoesOn, along_line_into, along_pipe_into, cell_below, edges_into, goes_round, goes_up, source_below, source_is}
use Rattle.pipe_laws.proofs.Inputs.{filter_long}
use Rattle.pipe_laws.proofs.CellTurns.{end_signals, place_at, signals, token_there}
use Rattle.pipe_laws.proofs.CellRuns.{IsCellRun, all_ends, kept}

-- the first pipe has one start more than there are tokens
abbrev pub end_place : ℕ → ℕ
end_place zero = 1
end_place (suc p) = 0

few_more : (p : ℕ) → end_place p ≤ 1
few_more zero = omega arith
few_more (suc p) = omega arith

module _ {V : Type 0} (pipeline : Pipeline V) where
  abbrev net : NetRows
  net = pipeline_net pipeline

  abbrev lines : ℕ
  lines = pipeline.lines

  abbrev pipes : ℕ
  pipes = length pipeline.serials

  abbrev task : ℕ → ℕ → ℕ
  task = cell_task pipeline

  abbrev all : List PipeEdge
  all = pipe_edges pipeline.lines pipeline.serials

  pub in_net : (l p : ℕ) → l < lines → p < pipes → task l p < length net.tasks
  in_net l p in_l in_p = omega (arith, length-replicate (lines * pipes) cell_row, cell_below l lines pipes in_l, in_p)

  pub some_pipes : slice_get pipeline.serials 0 ≡ Some true → 1 ≤ pipes
  some_pipes is = omega (arith, slice_get_within pipeline.serials 0 true is)

  module _ (one : OneAnswer V) (limit : ℕ) (values : List (ValueRow V)) (h : List Entry) (is : IsCellRun pipeline one limit values h) where
    abbrev pub started : ℕ → ℕ → ℕ
    started l p = length (starts_in values (task l p) h)

    -- how many of its ends signalled an edge
    abbrev pub signalled : ℕ → ℕ → ℕ → ℕ
    signalled e l p = length (filter (signals e) (ends_in values (start_at h) (task l p) h))

    -- the tokens that an edge was given
    pub given_is : (e l p : ℕ) (edge : PipeEdge) → slice_get all e ≡ Some edge → edge.row.from ≡ task l p → given net e h ≡ length (begun {V = V} net e) + signalled e l p
    given_is e l p edge at from =
        sym (((kept pipeline one limit values h is).held e).count) ∙ ap (λ r. length (tokens net e (ends_in values (start_at h) r h))) (source_is lines pipeline.serials e edge at ∙ from)
        ∙ length-append (begun {V = V} net e) (map (λ (end : TaskEnd V). value end.value) kept_ends)
        ∙ ap (λ n. length (begun {V = V} net e) + n) (length-map kept_ends (λ (end : TaskEnd V). value end.value))
      where
        kept_ends : List (TaskEnd V)
        kept_ends = filter (signals e) (ends_in values (start_at h) (task l p) h)

    -- among them the one with which it begins
    pub first_counts : (e : ℕ) (edge : PipeEdge) (starts : Bool) → slice_get all e ≡ Some edge → edge.row.start ≡ starts → length (begun {V = V} net e) ≡ cond starts 1 0
    first_counts e edge starts at is_start = ap length is_begun ∙ by_start starts
      where
        is_begun : begun {V = V} net e ≡ cond starts (first ∷ []) []
        is_begun = ap (λ o. option_map_or (λ (r : EdgeRow). cond r.start (first ∷ []) []) o []) (row_at lines pipeline.serials e edge at) ∙ ap (λ s. cond s (first ∷ []) []) is_start

        by_start : (s : Bool) → length {A = InputValue V} (cond s (first ∷ []) []) ≡ cond s 1 0
        by_start true = refl
        by_start false = refl

  module _ (one : OneAnswer V) (limit : ℕ) (values : List (ValueRow V)) (h : List Entry) (is : IsCellRun pipeline one limit values h) (complete : Complete (pipeline_net pipeline) limit h) (fine : IsFine h) where
    abbrev begun_at : ℕ → ℕ → ℕ
    begun_at l p = started one limit values h is l p

    abbrev signalled_at : ℕ → ℕ → ℕ → ℕ
    signalled_at e l p = signalled one limit values h is e l p

    pub finished : Finished net limit h
    finished = record { complete = complete; fine = fine; sources_in = λ e. omega (arith, source_below pipeline.lines pipeline.serials e is.some_lines (some_pipes is.first_serial), length-replicate (lines * pipes) cell_row) }

    -- At places with tokens all ends signal.
    all_signal : (e l p k : ℕ) (edge : PipeEdge) → l < lines → p < pipes → slice_get all e ≡ Some edge → edge.row.from ≡ task l p → place_at pipeline l k < length pipeline.order.passed → k + 1 ≤ begun_at l p → k + 1 ≤ signalled_at e l p
    all_signal e l p k edge in_l in_p at from short enough =
        filter_long (signals e) (ends_in values (start_at h) (task l p) h) (k + 1) (omega (arith, enough, all_ended net limit one values h is.given finished (task l p)))
        (λ j end less at_j. end_signals pipeline l p j k e edge end ((all_ends pipeline one limit values h is).ends l p j end in_l in_p at_j) (omega (arith, less)) (token_there pipeline.order (place_at pipeline l k) short) at from)

    -- ---- by the number of cells that come before

    -- the cell at a place of a pipe
    abbrev number : ℕ → ℕ → ℕ → ℕ
    number l p k = place_at pipeline l k * pipes + p

    abbrev StartsBelow : ℕ → Type 0
    StartsBelow m = (l p k : ℕ) → l < lines → p < pipes → place_at pipeline l k < length pipeline.order.passed + end_place p → number l p k < m → k + 1 ≤ begun_at l p

    module _ (m : ℕ) (below : StartsBelow m) (l p k : ℕ) (in_l : l < lines) (in_p : p < pipes) (short : place_at pipeline l k < length pipeline.order.passed + end_place p) (small : number l p k < suc m) where
      -- a cell whose place and pipe come before gave its edge as often
      signalled_by : (e line pipe j : ℕ) (edge : PipeEdge) → slice_get all e ≡ Some edge → edge.row.from ≡ task line pipe → line < lines → pipe < pipes → place_at pipeline line j < length pipeline.order.passed → number line pipe j < m → j + 1 ≤ signalled_at e line pipe
      signalled_by e line pipe j edge at from in_line in_pipe there smaller = all_signal e line pipe j edge in_line in_pipe at from there (below line pipe j in_line in_pipe (omega (arith, there)) smaller)

      along_pipe_given : (e : ℕ) → ComesFrom lines pipeline.serials lines (λ r. task r p) l e → k + 1 ≤ given net e h
      along_pipe_given e from = by_round from.round
        where
          has : given net e h ≡ length (begun {V = V} net e) + signalled_at e from.before p
          has = given_is one limit values h is e from.before p from.edge from.at from.from

          -- at the place before
          earlier : (j : ℕ) → place_at pipeline from.before j + 1 ≡ place_at pipeline l k → j + 1 ≤ signalled_at e from.before p
          earlier j next = signalled_by e from.before p j from.edge from.at from.from from.below in_p (omega (arith, next, short, few_more p)) (omega (arith, wider (place_at pipeline from.before j) (place_at pipeline l k) pipes next, small, in_p))
            where
              wider : (a b c : ℕ) → a + 1 ≡ b → a * c + c ≡ b * c
              wider a b c is = one_more a c ∙ ap (λ n. n * c) is
                where
                  one_more : (a c : ℕ) → a * c + c ≡ (a + 1) * c
                  one_more a c = omega arith

          by_round : GoesOn lines from.before l from.edge.row.start → k + 1 ≤ given net e h
          by_round (goes_up starts l_is) = omega (arith, has, earlier k (omega (arith, l_is)))
          by_round (goes_round starts l_is last) = by_place k refl
            where
              by_place : (i : ℕ) → k ≡ i → k + 1 ≤ given net e h
              by_place zero k_is = omega (arith, has, first_counts one limit values h is e from.edge true from.at starts, k_is)
              by_place (suc j) k_is = omega (arith, has, first_counts one limit values h is e from.edge true from.at starts, k_is, earlier j (omega (arith, last, l_is, more) ∙ sym (ap (λ i. i * lines + l) k_is)))
                where
                  more : suc j * lines ≡ j * lines + lines
                  more = omega arith

      along_line_given : (e : ℕ) → ComesFrom lines pipeline.serials pipes (task l) p e → k + 1 ≤ given net e h
      along_line_given e from = by_round from.round
        where
          has : given net e h ≡ length (begun {V = V} net e) + signalled_at e l from.before
          has = given_is one limit values h is e l from.before from.edge from.at from.from

          by_round : GoesOn pipes from.before p from.edge.row.start → k + 1 ≤ given net e h
          by_round (goes_up starts p_is) = omega (arith, has, signalled_by e l from.before k from.edge from.at from.from in_l from.below (omega (arith, short, later)) (omega (arith, small, p_is)))
            where
              later : end_place p ≡ 0
              later = ap end_place p_is ∙ ap end_place more
                where
                  more : from.before + 1 ≡ suc from.before
                  more = omega arith
          by_round (goes_round starts p_is last) = by_place k refl
            where
              by_place : (i : ℕ) → k ≡ i → k + 1 ≤ given net e h
              by_place zero k_is = omega (arith, has, first_counts one limit values h is e from.edge true from.at starts, k_is)
              by_place (suc j) k_is =
                  let round : place_at pipeline l k ≡ place_at pipeline l j + lines = ap (λ i. i * lines + l) k_is ∙ omega (arith, more) in
                  let there : place_at pipeline l j < length pipeline.order.passed = omega (arith, round, short, few_more p, is.some_lines) in
                  let smaller : number l from.before j < m = omega (arith, last, small, ap (λ n. n * pipes) round, spread (place_at pipeline l j) lines pipes, wide lines pipes is.some_lines) in
                  omega (arith, has, first_counts one limit values h is e from.edge true from.at starts, k_is, signalled_by e l from.before j from.edge from.at from.from in_l from.below there smaller)
                where
                  more : suc j * lines ≡ j * lines + lines
                  more = omega arith

                  spread : (a b c : ℕ) → (a + b) * c ≡ a * c + b * c
                  spread a b c = omega arith

                  wide : (a b : ℕ) → 1 ≤ a → b ≤ a * b
                  wide zero b some = absurd (omega (arith, some))
                  wide (suc a) b some = omega arith

      each_given : (e : ℕ) → EdgeInto lines pipeline.serials (task l p) e → k + 1 ≤ given net e h
      each_given e into = by_tag (along_pipe pipeline e) refl
        where
          by_tag : (t : Bool) → along_pipe pipeline e ≡ t → k + 1 ≤ given net e h
          by_tag true tag = along_pipe_given e (along_pipe_into lines pipeline.serials l p e in_p into tag)
          by_tag false tag = along_line_given e (along_line_into lines pipeline.serials l p e in_p into tag)

      starts_here : k + 1 ≤ begun_at l p
      starts_here =
          let some : strong_in net (task l p) ≢ [] = (pipes_ringed lines pipeline.serials).fed (task l p) (in_net l p in_l in_p) in
          let all_used : used (task l p) h ≡ least (map (λ e. given net e h) (strong_in net (task l p))) = at_below (λ s. strong_in net s ≢ [] → used s h ≡ least (map (λ f. given net f h) (strong_in net s))) (length net.tasks) complete.strong (task l p) (in_net l p in_l in_p) some in
          let used_is : begun_at l p ≡ used (task l p) h = ((kept pipeline one limit values h is).ran (task l p)).used_up (unstopped net limit h is.given.shape fine (task l p)) some in
          omega (
            arith,
            all_used,
            used_is,
            least_above (k + 1) (λ e. given net e h) (strong_in net (task l p)) some
                (all_weaken (EdgeInto lines pipeline.serials (task l p)) (λ e. k + 1 ≤ given net e h) each_given (strong_in net (task l p)) (edges_into lines pipeline.serials (task l p))),
          )

    starts_below : (m : ℕ) → StartsBelow m
    starts_below zero l p k in_l in_p short small = absurd (omega (arith, small))
    starts_below (suc m) l p k in_l in_p short small = starts_here m (starts_below m) l p k in_l in_p short small

    -- Each cell starts at its places with tokens, and the first pipe once more.
    pub starts_at_place : (l p k : ℕ) → l < lines → p < pipes → place_at pipeline l k < length pipeline.order.passed + end_place p → k + 1 ≤ begun_at l p
    starts_at_place l p k in_l in_p short = starts_below (suc (number l p k)) l p k in_l in_p short (omega arith)
