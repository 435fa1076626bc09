-- The k-th end of each cell has the token of its turn with the text that the pipes have made of it so far.
use Rattle.std.proofs.Common.{◌≡◌, ℕ, zero, suc, ◌<◌, Bool, true, false, not, cond, List, [], ◌∷◌, ◌++◌, length, map, get_or, Option, Some, None, sym, refl, ap, ◌∙◌, subst, arith}
use Rattle.std.specs.Prelude.{slice_get, filter}
use Rattle.std.specs.Option.{option_map, option_map_or}
use Rattle.std.proofs.lemmas.Bool.{false≢true}
use Rattle.std.proofs.lemmas.Option.{none-some, same_Some, slice_get_within, slice_get-get_or, slice_get-map}
use Rattle.task_graph.specs.NetRows.{NetRows}
use Rattle.task_graph.specs.Net.{strong_in}
use Rattle.task_graph.specs.declared.net.EdgeRow.{EdgeRow}
use Rattle.journal_rules.specs.declared.entry.Entry.{Entry}
use Rattle.journal_rules.specs.Counts.{start_at}
use Rattle.join_words.specs.Ins.{InputValue, value, first}
use Rattle.run_frame.specs.declared.job.Answer.TheVariants.{All as Each}
use Rattle.run_frame.specs.declared.run.ValueRow.{ValueRow}
use Rattle.pipe_lines.specs.declared.order.Passed.{Passed}
use Rattle.pipe_lines.specs.declared.order.Passed.TheVariants.{Token, Stop, Unmet}
use Rattle.pipe_lines.specs.Orders.{passed_at}
use Rattle.text_tasks.specs.declared.item.Item.{Item}
use Rattle.text_tasks.specs.declared.item.Item.TheVariants.{Cell}
use Rattle.text_tasks.specs.Cells.{Pipeline, along_pipe, cell_task, line_input, pipeline_net}
use Rattle.text_tasks.specs.PipeWork.{IsPipeWork, PipeWork, pipeline_of}
use Rattle.run_laws.specs.OneThreadValue.{OneAnswer, TaskEnd, begun, tokens}
use Rattle.run_laws.proofs.Legally.{placed_along}
use Rattle.run_laws.proofs.Phases.{ends_few}
use Rattle.run_laws.proofs.Pipes.{row_at}
use Rattle.run_laws.proofs.Steps.{ends_in, starts_in, tokens_in}
use Rattle.run_laws.proofs.Values.{Ran}
use Rattle.pipe_laws.proofs.CellRuns.{IsCellRun, all_ends, all_starts, kept}
use Rattle.pipe_laws.proofs.CellTurns.{end_signalled, place_at, signals}
use Rattle.pipe_laws.proofs.Edges.{ComesFrom, EdgeInto, GoesOn, along_line_into, edges_into, goes_round, goes_up, has_along_line, source_is}
use Rattle.pipe_laws.proofs.Inputs.{InputAt, input_at}
use Rattle.pipe_laws.proofs.TextCells.{cell_answer}
use Rattle.pipe_values.proofs.CellTexts.{EndsWith, cell_at, first_is, later_is, moved}

-- a token is one
pub same_token : (a b : ℕ) → Token a ≡ Token b → a ≡ b
same_token a b same = ap token_of same
  where
    token_of : Passed → ℕ
    token_of (Token j) = j
    token_of Stop = 0
    token_of (Unmet j) = j

-- ---- what comes along a line

module _ {V : Type 0} (pipeline : Pipeline V) (one : OneAnswer V) (limit : ℕ) (values : List (ValueRow V)) (h : List Entry) (is : IsCellRun pipeline one limit values h) where
  abbrev net : NetRows
  net = pipeline_net pipeline

  abbrev task : ℕ → ℕ → ℕ
  task = cell_task pipeline

  abbrev ends_at : ℕ → ℕ → List (TaskEnd V)
  ends_at l p = ends_in values (start_at h) (task l p) h

  -- those that signalled an edge
  abbrev signalled : ℕ → ℕ → ℕ → List (TaskEnd V)
  signalled e l p = filter (signals e) (ends_at l p)

  -- the k-th end of the cell before, which has a token
  pub record ComesAlong (l p k : ℕ) (input : InputValue V) : Type 0 where
    pub token : ℕ
    pub has : passed_at pipeline.order (place_at pipeline l k) ≡ Token token
    pub end : TaskEnd V
    pub at : slice_get (ends_at l p) k ≡ Some end
    pub is_value : input ≡ value end.value

  -- what a start of a later pipe found along its line
  pub comes_along : (l p k : ℕ) (found : List (InputValue V)) → l < pipeline.lines → suc p < length pipeline.serials → slice_get (starts_in values (task l (suc p)) h) k ≡ Some found → ComesAlong l p k (line_input pipeline (task l (suc p)) found)
  comes_along l p k found in_l in_p at_k = by_round from.round
    where
      along : InputAt (λ e. not (along_pipe pipeline e)) (EdgeInto pipeline.lines pipeline.serials (task l (suc p))) (λ e x. slice_get (tokens_in net values (start_at h) e h) k ≡ Some x) (line_input pipeline (task l (suc p)) found)
      along =
          input_at (λ e. not (along_pipe pipeline e)) (EdgeInto pipeline.lines pipeline.serials (task l (suc p))) (λ e x. slice_get (tokens_in net values (start_at h) e h) k ≡ Some x) (strong_in net (task l (suc p))) found
          (edges_into pipeline.lines pipeline.serials (task l (suc p))) ((kept pipeline one limit values h is).finds (task l (suc p)) k found at_k) (has_along_line pipeline.lines pipeline.serials l (suc p) in_l in_p)

      tag : along_pipe pipeline along.edge ≡ false
      tag = by_tag (along_pipe pipeline along.edge) along.passes
        where
          by_tag : (b : Bool) → not b ≡ true → b ≡ false
          by_tag false passes = refl
          by_tag true passes = absurd (false≢true passes)

      from : ComesFrom pipeline.lines pipeline.serials (length pipeline.serials) (task l) (suc p) along.edge
      from = along_line_into pipeline.lines pipeline.serials l (suc p) along.edge in_p along.is tag

      -- that edge begins without a token
      tokens_are : from.edge.row.start ≡ false → tokens_in net values (start_at h) along.edge h ≡ map (λ (end : TaskEnd V). value end.value) (signalled along.edge l from.before)
      tokens_are starts =
          ap (λ r. tokens net along.edge (ends_in values (start_at h) r h)) (source_is pipeline.lines pipeline.serials along.edge from.edge from.at ∙ from.from)
          ∙ ap (λ ts. ts ++ map (λ (end : TaskEnd V). value end.value) (signalled along.edge l from.before)) none
        where
          none : begun {V = V} net along.edge ≡ []
          none = ap (λ o. option_map_or (λ (r : EdgeRow). cond r.start (first ∷ []) []) o []) (row_at pipeline.lines pipeline.serials along.edge from.edge from.at) ∙ ap (λ s. cond s (first ∷ []) []) starts

      by_end : from.before ≡ p → (o : Option (TaskEnd V)) → slice_get (signalled along.edge l from.before) k ≡ o → option_map (λ (end : TaskEnd V). value end.value) o ≡ Some (line_input pipeline (task l (suc p)) found) → ComesAlong l p k (line_input pipeline (task l (suc p)) found)
      by_end same None at none = absurd (none-some _ none)
      by_end same (Some end) at some =
          let there = end_signalled pipeline one is.cells is.first_serial values (start_at h) h l from.before k along.edge from.edge end (all_ends pipeline one limit values h is) in_l from.below from.at from.from at in
          record { token = there.1.token; has = there.1.is; end = end; at = subst (λ r. slice_get (ends_at l r) k ≡ Some end) same there.0; is_value = sym (same_Some _ _ some) }

      by_round : GoesOn (length pipeline.serials) from.before (suc p) from.edge.row.start → ComesAlong l p k (line_input pipeline (task l (suc p)) found)
      by_round (goes_round starts p_is last) = absurd (omega (arith, p_is))
      by_round (goes_up starts p_is) =
          by_end (omega (arith, p_is)) (slice_get (signalled along.edge l from.before) k) refl
          (sym (slice_get-map (λ (end : TaskEnd V). value end.value) (signalled along.edge l from.before) k) ∙ sym (ap (λ ts. slice_get ts k) (tokens_are starts)) ∙ along.found)

-- ---- the text of each end

module _ (work : PipeWork) (is : IsPipeWork work) (limit : ℕ) (values : List (ValueRow Item)) (h : List Entry) (run : IsCellRun (pipeline_of work) (cell_answer work) limit values h) where
  abbrev lines : ℕ
  lines = work.spec.lines

  abbrev pipes : ℕ
  pipes = length work.spec.serial

  abbrev cell : ℕ → ℕ → ℕ
  cell = cell_task (pipeline_of work)

  abbrev place : ℕ → ℕ → ℕ
  place l k = place_at (pipeline_of work) l k

  abbrev cell_ends : ℕ → ℕ → List (TaskEnd Item)
  cell_ends l p = ends_in values (start_at h) (cell l p) h

  abbrev cell_starts : ℕ → ℕ → List (List (InputValue Item))
  cell_starts l p = starts_in values (cell l p) h

  -- the value of the k-th end of a cell, where a token passes at its place
  abbrev EndsSo : ℕ → Type 0
  EndsSo p = (l k token : ℕ) (end : TaskEnd Item) → l < lines → slice_get (cell_ends l p) k ≡ Some end → passed_at work.order (place l k) ≡ Token token → EndsWith (cell_at work (place l k) token p) end

  -- what ended had started
  pub record StartOf (l p k : ℕ) (end : TaskEnd Item) : Type 0 where
    pub found : List (InputValue Item)
    pub at : slice_get (cell_starts l p) k ≡ Some found
    pub answered : cell_answer work (cell l p) found ≡ Some end

  pub start_of_end : (l p k : ℕ) (end : TaskEnd Item) → slice_get (cell_ends l p) k ≡ Some end → StartOf l p k end
  start_of_end l p k end at_k = record { found = found; at = at_start; answered = ran.answered k found end at_start at_k }
    where
      ran : Ran (pipeline_net (pipeline_of work)) (cell_answer work) values (start_at h) (cell l p) h (cell_starts l p) (cell_ends l p)
      ran = (kept (pipeline_of work) (cell_answer work) limit values h run).ran (cell l p)

      found : List (InputValue Item)
      found = get_or (cell_starts l p) k []

      at_start : slice_get (cell_starts l p) k ≡ Some found
      at_start =
          slice_get-get_or (cell_starts l p) k []
          (omega (arith, slice_get_within _ k end at_k, ran.ended, ran.begun, ends_few (start_at h) (cell l p) h ((placed_along (pipeline_net (pipeline_of work)) limit h run.given.shape run.given.steady.single).1.phases (cell l p))))

  -- what a start of a later cell found, by the ends of the pipe before
  pub record FoundAlong (l p k : ℕ) (input : InputValue Item) : Type 0 where
    pub token : ℕ
    pub has : passed_at work.order (place l k) ≡ Token token
    pub is_cell : input ≡ value (Cell (cell_at work (place l k) token p))

  found_by : (p : ℕ) → EndsSo p → (l k : ℕ) (found : List (InputValue Item)) → l < lines → suc p < pipes → slice_get (cell_starts l (suc p)) k ≡ Some found → FoundAlong l p k (line_input (pipeline_of work) (cell l (suc p)) found)
  found_by p so l k found in_l in_p at_k =
      let along = comes_along (pipeline_of work) (cell_answer work) limit values h run l p k found in_l in_p at_k in
      record { token = along.token; has = along.has; is_cell = along.is_value ∙ ap {B = InputValue Item} value (so l k along.token along.end in_l along.at along.has).value }

  pub ends_so : (p : ℕ) → p < pipes → EndsSo p
  ends_so zero in_p l k token end in_l at_k has =
      moved (pipeline_net (pipeline_of work)) (cell l 0) (cell_at work (place l k) token 0) Each end
      (
      sym (first_is work is l 0 in_p start.found refl (place l k) (Token token) ((all_starts (pipeline_of work) (cell_answer work) limit values h run).starts l 0 k start.found in_l in_p start.at) has)
      ∙ start.answered
      )
    where
      start : StartOf l 0 k end
      start = start_of_end l 0 k end at_k
  ends_so (suc p) in_p l k token end in_l at_k has = after_that (ends_so p (omega (arith, in_p)))
    where
      start : StartOf l (suc p) k end
      start = start_of_end l (suc p) k end at_k

      after_that : EndsSo p → EndsWith (cell_at work (place l k) token (suc p)) end
      after_that so =
          let along = found_by p so l k start.found in_l in_p start.at in
          let is_cell : line_input (pipeline_of work) (cell l (suc p)) start.found ≡ value (Cell (cell_at work (place l k) token p)) =
          along.is_cell ∙ ap (λ t. value (Cell (cell_at work (place l k) t p))) (same_token along.token token (sym along.has ∙ has)) in
          moved (pipeline_net (pipeline_of work)) (cell l (suc p)) (cell_at work (place l k) token (suc p)) Each end (sym (later_is work is l (suc p) in_p start.found p refl (place l k) token is_cell) ∙ start.answered)

  pub found_along : (l p k : ℕ) (found : List (InputValue Item)) → l < lines → suc p < pipes → slice_get (cell_starts l (suc p)) k ≡ Some found → FoundAlong l p k (line_input (pipeline_of work) (cell l (suc p)) found)
  found_along l p k found in_l in_p at_k = found_by p (ends_so p (omega (arith, in_p))) l k found in_l in_p at_k
