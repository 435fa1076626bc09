-- The cells of a pipeline of texts answer as cells do.
use Rattle.std.proofs.Common.{◌≡◌, ℕ, zero, suc, ◌+◌, ◌*◌, ◌%◌, ◌<◌, ◌≤◌, ◌==◌, Bool, true, false, cond, List, [], length, Option, Some, None, sym, refl, ap, ◌∙◌, arith}
use Rattle.std.specs.Prelude.{nat_le, slice_get, slice_index_or}
use Rattle.std.specs.Option.{option_and_then, option_map}
use Rattle.std.proofs.lemmas.Bool.Decides.{nat_tests}
use Rattle.std.proofs.lemmas.Nat.{mod-mul-add}
use Rattle.std.proofs.lemmas.Option.{none-some, same_Some, slice_get-get_or, slice_get_within}
use Rattle.task_graph.specs.NetRows.{NetRows}
use Rattle.task_graph.specs.Net.{out_edges}
use Rattle.journal_rules.specs.declared.entry.Why.{Why}
use Rattle.join_words.specs.Ins.{InputValue}
use Rattle.run_frame.specs.declared.job.Answer.{Answer}
use Rattle.run_frame.specs.declared.job.Answer.TheVariants.{All as Each, None as NoneOf}
use Rattle.run_frame.specs.declared.job.Done.{Done}
use Rattle.run_frame.specs.declared.job.Done.TheVariants.{Value, Inner as InnerJob}
use Rattle.run_frame.specs.declared.run.FrameRun.{FrameRun}
use Rattle.run_frame.specs.WorkRule.{gives_of}
use Rattle.run_frame.specs.NestedRule.{job_of}
use Rattle.graph_plans.specs.declared.pipes.LineOp.{LineOp}
use Rattle.graph_plans.specs.declared.pipes.LineOp.TheVariants.{Number}
use Rattle.pipe_lines.specs.declared.order.Passed.{Passed}
use Rattle.pipe_lines.specs.declared.order.Passed.TheVariants.{Token, Stop, Unmet}
use Rattle.pipe_lines.specs.Orders.{passed_at}
use Rattle.text_ops.specs.Values.{value_limit}
use Rattle.text_tasks.specs.declared.item.CellItem.{CellItem}
use Rattle.text_tasks.specs.declared.item.Item.{Item}
use Rattle.text_tasks.specs.declared.item.Item.TheVariants.{Cell}
use Rattle.text_tasks.specs.declared.job.TextJob.{TextJob}
use Rattle.text_tasks.specs.declared.job.TextJob.TheVariants.{Pipe}
use Rattle.text_tasks.specs.Cells.{cell_task, edges_for, line_input, meets, next_place, pipe_input, pipeline_net, token_in}
use Rattle.text_tasks.specs.CellMeaning.{cell_meaning, enters, goes_on, line_op_value, pipe_of, place_in}
use Rattle.text_tasks.specs.FoundTexts.{found_text}
use Rattle.text_tasks.specs.Items.{item_place, item_token}
use Rattle.text_tasks.specs.JobMeaning.{net_of, task_meaning, text_job}
use Rattle.text_tasks.specs.OpMeaning.{OpMeaning, moves_on, never_passes, runs}
use Rattle.text_tasks.specs.PipeWork.{IsPipeWork, PipeWork, pipeline_of}
use Rattle.run_laws.specs.OneAnswer.{AllowsOne, InnerRunOf}
use Rattle.run_laws.specs.OneThreadValue.{OneAnswer, TaskEnd}
use Rattle.run_laws.specs.TextAnswers.{done_by, text_does}
use Rattle.run_laws.proofs.TextAnswers.{fault_at_task, inner_at_task, value_at_task}
use Rattle.pipe_laws.specs.Cells.{AreCells}

-- ---- the one answer of each cell

-- what is done, as an end of a task
abbrev pub end_by : NetRows → ℕ → Done TextJob Item → Option (TaskEnd Item)
end_by net t (Value item answer) = Some (record { value = item; gives = gives_of (out_edges net t) answer })
end_by net t (InnerJob job) = None

abbrev pub cell_answer : PipeWork → OneAnswer Item
cell_answer work t found = option_and_then (end_by (net_of (Pipe work)) t) (text_does (Pipe work) t found)

-- a cell runs no job
enters_runs : (work : PipeWork) (op : LineOp) (place : ℕ) (passed : Passed) (inner : TextJob) → enters work op place passed ≡ runs inner → ⊥
enters_runs work op place (Token k) inner same = cc
enters_runs work op place Stop inner same = cc
enters_runs work op place (Unmet k) inner same = cc

pub cell_runs : (work : PipeWork) (t : ℕ) (found : List (InputValue Item)) (op : Option LineOp) (inner : TextJob) → option_map (cell_meaning work t found) op ≡ Some (runs inner) → ⊥
cell_runs work t found None inner same = none-some _ same
cell_runs work t found (Some op) inner same = by_pipe (pipe_of work t == 0) _ _ _ _ _ (same_Some _ _ same)
  where
    by_pipe : (b : Bool) (place : ℕ) (passed : Passed) (token before : ℕ) (text : List ℕ) → cond b (enters work op place passed) (goes_on op token before text) ≡ runs inner → ⊥
    by_pipe true place passed token before text is = enters_runs work op place passed inner is
    by_pipe false place passed token before text is = cc

-- the meaning of a pipeline's job allows that answer alone
pub allows_cells : (work : PipeWork) → AllowsOne text_job (Pipe work) (cell_answer work)
allows_cells work = record {
  value = λ t found v answer allowed. ap (option_and_then (end_by (net_of (Pipe work)) t)) (value_at_task (task_meaning (Pipe work) t found) v answer allowed);
  fault = λ t found why allowed. ap (option_and_then (end_by (net_of (Pipe work)) t)) (fault_at_task (task_meaning (Pipe work) t found) why allowed);
  inner_value = λ t found run v of fine gathered. absurd (never t found run of);
  inner_fault = λ t found run of cut. absurd (never t found run of);
  gather_fault = λ t found run why of fine fault. absurd (never t found run of);
}
  where
    never : (t : ℕ) (found : List (InputValue Item)) (run : FrameRun TextJob Item) → InnerRunOf text_job (Pipe work) t found run → ⊥
    never t found run of = cell_runs work t found (slice_get work.ops (pipe_of work t)) (job_of run) (inner_at_task (task_meaning (Pipe work) t found) (job_of run) of.answered)

-- ---- what that answer is

-- a cell that goes on with a token, or stops
pub record Ends (cell : CellItem) (gives : List ℕ) (end : TaskEnd Item) : Type 0 where
  pub value : end.value ≡ Cell cell
  pub gives_them : end.gives ≡ gives

moves_end : (net : NetRows) (t : ℕ) (cell : CellItem) (chosen : Answer) (end : TaskEnd Item) → option_and_then (end_by net t) (done_by (moves_on cell chosen)) ≡ Some end → Ends cell (gives_of (out_edges net t) chosen) end
moves_end net t cell chosen end is = by_length (nat_le (length cell.text) value_limit) is
  where
    by_length : (b : Bool) → option_and_then (end_by net t) (cond b (Some (Value (Cell cell) chosen)) None) ≡ Some end → Ends cell (gives_of (out_edges net t) chosen) end
    by_length true same =
        let whole : record { value = Cell cell; gives = gives_of (out_edges net t) chosen } ≡ end = same_Some _ _ same in
        record { value = sym (ap (λ (e : TaskEnd Item). e.value) whole); gives_them = sym (ap (λ (e : TaskEnd Item). e.gives) whole) }
    by_length false same = absurd (none-some _ same)

module _ (work : PipeWork) (is : IsPipeWork work) (l p : ℕ) (low : p < length work.spec.serial) (found : List (InputValue Item)) where
  abbrev t : ℕ
  t = cell_task (pipeline_of work) l p

  abbrev net : NetRows
  net = net_of (Pipe work)

  abbrev place : ℕ
  place = next_place (pipeline_of work) (pipe_input (pipeline_of work) t found)

  abbrev along : InputValue Item
  along = line_input (pipeline_of work) t found

  its_pipe : pipe_of work t ≡ p
  its_pipe = mod-mul-add l (length work.spec.serial) p low

  -- the operation of its pipe, and what the cell does
  abbrev op : LineOp
  op = slice_index_or work.ops p Number

  its_meaning : task_meaning (Pipe work) t found ≡ Some (cell_meaning work t found op)
  its_meaning =
      ap (λ q. option_map (cell_meaning work t found) (slice_get work.ops q)) its_pipe
      ∙ ap (option_map (cell_meaning work t found)) (slice_get-get_or work.ops p Number (omega (arith, low, is.op_count)))

  abbrev Answers : OpMeaning → TaskEnd Item → Type 0
  Answers meaning end = option_and_then (end_by net t) (done_by meaning) ≡ Some end

  abbrev entering : Passed → OpMeaning
  entering passed = enters work op place passed

  abbrev going : OpMeaning
  going = goes_on op (token_in (pipeline_of work) along) (place_in along) (found_text along)

  at_first : pipe_of work t ≡ 0 → cell_meaning work t found op ≡ entering (passed_at work.order place)
  at_first first = ap (λ q. cond {A = OpMeaning} (q == 0) (entering (passed_at work.order place)) going) first

  further : (q : ℕ) → pipe_of work t ≡ suc q → cell_meaning work t found op ≡ going
  further q more =
      let no : (suc q == 0) ≡ false = grind (arith, nat_tests) in
      ap (λ r. cond {A = OpMeaning} (r == 0) (entering (passed_at work.order place)) going) more ∙ ap (λ b. cond {A = OpMeaning} b (entering (passed_at work.order place)) going) no

  -- so what a cell answers is what is done by that
  answer_by : (meaning : OpMeaning) → cell_meaning work t found op ≡ meaning → cell_answer work t found ≡ option_and_then (end_by net t) (done_by meaning)
  answer_by meaning same = ap (λ o. option_and_then (end_by net t) (option_and_then done_by o)) (its_meaning ∙ ap Some same)

  pub first_answer : p ≡ 0 → cell_answer work t found ≡ option_and_then (end_by net t) (done_by (entering (passed_at work.order place)))
  first_answer first = answer_by (entering (passed_at work.order place)) (at_first (its_pipe ∙ first))

  pub later_answer : (q : ℕ) → p ≡ suc q → cell_answer work t found ≡ option_and_then (end_by net t) (done_by going)
  later_answer q more = answer_by going (further q (its_pipe ∙ more))

  -- a cell that enters has its place, and gives what goes with what passes
  pub record Entered (passed : Passed) (end : TaskEnd Item) : Type 0 where
    pub place_is : item_place end.value ≡ place
    pub token_is : (k : ℕ) → passed ≡ Token k → item_token end.value ≡ k
    pub gives_is : end.gives ≡ edges_for passed (out_edges net t)

  entered : (passed : Passed) (end : TaskEnd Item) → Answers (entering passed) end → Entered passed end
  entered (Token k) end given =
      let cell : CellItem = record { text = line_op_value op k place (slice_index_or work.parts k []); token = k; place = place } in
      let of : Ends cell (out_edges net t) end = moves_end net t cell Each end given in
      record { place_is = ap item_place of.value; token_is = λ j same. ap item_token of.value ∙ same_token k j same; gives_is = of.gives_them }
    where
      token_of : Passed → ℕ
      token_of (Token j) = j
      token_of Stop = 0
      token_of (Unmet j) = j

      same_token : (a b : ℕ) → Token a ≡ Token b → a ≡ b
      same_token a b same = ap token_of same
  entered Stop end given =
      let cell : CellItem = record { text = []; token = 0; place = place } in
      let of : Ends cell [] end = moves_end net t cell NoneOf end given in
      record { place_is = ap item_place of.value; token_is = λ j same. absurd (cc); gives_is = of.gives_them }
  entered (Unmet k) end given = absurd (none-some _ given)

  pub first_cell : p ≡ 0 → (end : TaskEnd Item) → cell_answer work t found ≡ Some end → Entered (passed_at work.order place) end
  first_cell first end given = entered (passed_at work.order place) end (sym (first_answer first) ∙ given)

  pub later_cell : (q : ℕ) → p ≡ suc q → (end : TaskEnd Item) → cell_answer work t found ≡ Some end → (item_token end.value ≡ token_in (pipeline_of work) along) × (end.gives ≡ out_edges net t)
  later_cell q more end given =
      let token : ℕ = token_in (pipeline_of work) along in
      let cell : CellItem = record { text = line_op_value op token (place_in along) (found_text along); token = token; place = place_in along } in
      let of : Ends cell (out_edges net t) end = moves_end net t cell Each end (sym (later_answer q more) ∙ given) in
      (ap item_token of.value, of.gives_them)

  pub unmet_cell : p ≡ 0 → (k : ℕ) → passed_at work.order place ≡ Unmet k → cell_answer work t found ≡ None
  unmet_cell first k never = first_answer first ∙ ap (λ passed. option_and_then (end_by net t) (done_by (entering passed))) never

-- The tasks of a pipeline's job answer as cells do.
pub are_cells : (work : PipeWork) → IsPipeWork work → AreCells (pipeline_of work) (cell_answer work)
are_cells work is = record {
  few = is.passed_count;
  place = λ l found end below given. (first_cell work is l 0 some found refl end given).place_is;
  token = λ l p k found end below low given meets_it. token_at l p low k found end given meets_it;
  gives = λ l p found end below low given. gives_at l p low found end given;
  unmet = λ l k found below meets_it. unmet_cell work is l 0 some found refl k meets_it;
}
  where
    some : 0 < length work.spec.serial
    some = slice_get_within work.spec.serial 0 true is.pipeline.first_serial

    token_at : (l p : ℕ) → p < length work.spec.serial → (k : ℕ) (found : List (InputValue Item)) (end : TaskEnd Item) → cell_answer work (cell_task (pipeline_of work) l p) found ≡ Some end
        → meets (pipeline_of work) p (cell_task (pipeline_of work) l p) found ≡ Token k → item_token end.value ≡ k
    token_at l zero low k found end given meets_it = (first_cell work is l 0 low found refl end given).token_is k meets_it
    token_at l (suc p) low k found end given meets_it = (later_cell work is l (suc p) low found p refl end given).0 ∙ same_token _ k meets_it
      where
        token_of : Passed → ℕ
        token_of (Token j) = j
        token_of Stop = 0
        token_of (Unmet j) = j

        same_token : (a b : ℕ) → Token a ≡ Token b → a ≡ b
        same_token a b same = ap token_of same

    gives_at : (l p : ℕ) → p < length work.spec.serial → (found : List (InputValue Item)) (end : TaskEnd Item) → cell_answer work (cell_task (pipeline_of work) l p) found ≡ Some end
        → end.gives ≡ edges_for (meets (pipeline_of work) p (cell_task (pipeline_of work) l p) found) (out_edges (pipeline_net (pipeline_of work)) (cell_task (pipeline_of work) l p))
    gives_at l zero low found end given = (first_cell work is l 0 low found refl end given).gives_is
    gives_at l (suc p) low found end given = (later_cell work is l (suc p) low found p refl end given).1
