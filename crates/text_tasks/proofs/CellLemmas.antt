-- What cells find by the tags of the edges.
use Rattle.std.proofs.Common.{◌≡◌, ◌≢◌, ℕ, zero, suc, ◌+◌, ◌<◌, Bool, true, false, cond, List, [], ◌∷◌, length, map, drop, get_or, Some, None, refl, sym, ap, subst, ◌∙◌, arith, drop-cons}
use Rattle.std.specs.Prelude.{◌==◌, Result, IsSomeAnd, slice_get}
use Rattle.std.specs.Option.{option_map}
use Rattle.std.proofs.lemmas.Bool.{eqb-true, false_from_ne_true}
use Rattle.std.proofs.lemmas.Option.{slice_get-get_or}
use Rattle.task_graph.specs.Net.{strong_in}
use Rattle.join_words.specs.Ins.{InputValue, value, first, nothing, found_of}
use Rattle.join_words.specs.declared.ins.Given.{Given}
use Rattle.run_frame.specs.declared.job.Done.{Done}
use Rattle.graph_plans.specs.declared.pipes.LineOp.{LineOp}
use Rattle.pipe_lines.specs.Orders.{passed_at}
use Rattle.pipe_lines.specs.PipeNet.{along_pipes, pipe_net}
use Rattle.text_tasks.specs.declared.item.Item.{Item}
use Rattle.text_tasks.specs.declared.job.TextJob.{TextJob}
use Rattle.text_tasks.specs.declared.job.TextJob.TheVariants.{Pipe}
use Rattle.text_tasks.specs.declared.task_error.TaskError.{TaskError}
use Rattle.text_tasks.specs.CellMeaning.{cell_meaning, enters, goes_on, pipe_of, place_in}
use Rattle.text_tasks.specs.FoundTexts.{found_text}
use Rattle.text_tasks.specs.OpMeaning.{OpMeaning}
use Rattle.text_tasks.specs.Cells.{along_pipe, input_where, line_input, next_place, pipe_input, token_in}
use Rattle.text_tasks.specs.PipeWork.{PipeWork, pipeline_of}
use Rattle.text_tasks.specs.inside.CellInputs.{found_or, input_tagged, next_place_of, token_of}
use Rattle.text_tasks.specs.inside.Working.{DoesAs, TaskDoes}

-- The first input at an edge that passes is at hand, or the walk goes on.
module _ (p : ℕ → Bool) (edges : List ℕ) (inputs : List (Given Item)) (i : ℕ) (below : i < length edges) where
  abbrev edge : ℕ
  edge = get_or edges i 0

  split : drop i edges ≡ edge ∷ drop (suc i) edges
  split = drop-cons edges i 0 below

  pub input_here : (whole : InputValue Item) → p (get_or edges i 0) ≡ true → input_where p (drop i edges) (drop i (map found_of inputs)) ≡ whole → found_or (slice_get inputs i) ≡ whole
  input_here whole passes before = from_front inputs i ∙ sym (ap (λ es. input_where p es (drop i (map found_of inputs))) split) ∙ before
    where
      from_front : (xs : List (Given Item)) (j : ℕ) → found_or (slice_get xs j) ≡ input_where p (edge ∷ drop (suc i) edges) (drop j (map found_of xs))
      from_front [] zero = refl
      from_front [] (suc j) = refl
      from_front (x ∷ xs) zero = sym (ap (λ b. cond b (found_of x) (input_where p (drop (suc i) edges) (map found_of xs))) passes)
      from_front (x ∷ xs) (suc j) = from_front xs j

  pub input_next : (whole : InputValue Item) → p (get_or edges i 0) ≡ false → input_where p (drop i edges) (drop i (map found_of inputs)) ≡ whole → input_where p (drop (i + 1) edges) (drop (i + 1) (map found_of inputs)) ≡ whole
  input_next whole fails before =
      let next : i + 1 ≡ suc i = omega arith in
      ap (λ n. input_where p (drop n edges) (drop n (map found_of inputs))) next
      ∙ from_front (drop (suc i) edges) inputs i
      ∙ sym (ap (λ es. input_where p es (drop i (map found_of inputs))) split)
      ∙ before
    where
      nothing_left : (ds : List ℕ) → input_where {V = Item} p ds [] ≡ nothing
      nothing_left [] = refl
      nothing_left (d ∷ ds) = refl

      from_front : (ds : List ℕ) (xs : List (Given Item)) (j : ℕ) → input_where p ds (drop (suc j) (map found_of xs)) ≡ input_where p (edge ∷ ds) (drop j (map found_of xs))
      from_front ds [] zero = nothing_left ds
      from_front ds [] (suc j) = nothing_left ds
      from_front ds (x ∷ xs) zero = sym (ap (λ b. cond b (found_of x) (input_where p ds (map found_of xs))) fails)
      from_front ds (x ∷ xs) (suc j) = from_front ds xs j

-- The tags are those of the net's edges.
module _ (work : PipeWork) (tags : List Bool) (task : ℕ) (edges : List ℕ) (found : List (InputValue Item)) (are : tags ≡ along_pipes work.spec.lines work.spec.serial) (into : edges ≡ strong_in (pipe_net work.spec.lines work.spec.serial) task) where
  pub pipe_input_is : input_tagged tags true edges found ≡ pipe_input (pipeline_of work) task found
  pipe_input_is = ap (λ ts. input_tagged ts true edges found) are ∙ ap (λ es. input_where (along_pipe (pipeline_of work)) es found) into

  pub line_input_is : input_tagged tags false edges found ≡ line_input (pipeline_of work) task found
  line_input_is = ap (λ ts. input_tagged ts false edges found) are ∙ ap (λ es. line_input_at es) into
    where
      line_input_at : List ℕ → InputValue Item
      line_input_at es = input_tagged (along_pipes work.spec.lines work.spec.serial) false es found

pub next_place_is : (work : PipeWork) (input : InputValue Item) → next_place_of input ≡ next_place (pipeline_of work) input
next_place_is work (value item) = refl
next_place_is work first = refl
next_place_is work nothing = refl

pub token_is : (work : PipeWork) (input : InputValue Item) → token_of input ≡ token_in (pipeline_of work) input
token_is work (value item) = refl
token_is work first = refl
token_is work nothing = refl

-- ---- what cells do

-- where there is no part there is the empty text
pub missing_part : (parts : List (List ℕ)) (number : ℕ) → slice_get parts number ≡ None → get_or parts number [] ≡ []
missing_part [] number none = refl
missing_part (part ∷ parts) zero none = cc
missing_part (part ∷ parts) (suc number) none = missing_part parts number none

is_later : (pipe : ℕ) → pipe ≢ 0 → (pipe == 0) ≡ false
is_later pipe later = false_from_ne_true (pipe == 0) (λ is. later (eqb-true pipe 0 is))

-- the operation that stands at a cell's pipe
pub op_at : (work : PipeWork) (task : ℕ) (ops : List LineOp) (pipe : ℕ) (op : LineOp) → ops ≡ work.ops → pipe ≡ pipe_of work task → pipe < length work.ops → op ≡ get_or ops pipe op → slice_get work.ops (pipe_of work task) ≡ Some op
op_at work task ops pipe op are at below is =
    subst (λ p. slice_get work.ops p ≡ Some op) at
    (slice_get-get_or work.ops pipe op below ∙ ap Some (sym (is ∙ ap (λ l. get_or l pipe op) are)))

of_first : (test : Bool) (m n : OpMeaning) (result : Result (Done TextJob Item) TaskError) → test ≡ true → DoesAs m result → DoesAs (cond test m n) result
of_first test m n result is does = subst (λ b. DoesAs (cond b m n) result) (sym is) does

of_later : (test : Bool) (m n : OpMeaning) (result : Result (Done TextJob Item) TaskError) → test ≡ false → DoesAs n result → DoesAs (cond test m n) result
of_later test m n result is does = subst (λ b. DoesAs (cond b m n) result) (sym is) does

-- A cell does what its pipe's operation says.
module _ (work : PipeWork) (task : ℕ) (found : List (InputValue Item)) (op : LineOp) (result : Result (Done TextJob Item) TaskError) (there : slice_get work.ops (pipe_of work task) ≡ Some op) where
  by_cell : DoesAs (cell_meaning work task found op) result → TaskDoes (Pipe work) task found result
  by_cell does = subst (λ o. IsSomeAnd (option_map (cell_meaning work task found) o) (λ meaning. DoesAs meaning result)) (sym there) does

  entering : ℕ → OpMeaning
  entering place = enters work op place (passed_at work.order place)

  going_on : InputValue Item → OpMeaning
  going_on input = goes_on op (token_in (pipeline_of work) input) (place_in input) (found_text input)

  -- in the first pipe it meets what the order has at its place
  pub first_cell_does : (place : ℕ) → pipe_of work task ≡ 0 → place ≡ next_place (pipeline_of work) (pipe_input (pipeline_of work) task found) → DoesAs (enters work op place (passed_at work.order place)) result → TaskDoes (Pipe work) task found result
  unfolding entering going_on
  first_cell_does place is_first at does =
      by_cell (of_first (pipe_of work task == 0) (entering (next_place (pipeline_of work) (pipe_input (pipeline_of work) task found))) (going_on (line_input (pipeline_of work) task found)) result (ap (λ pipe. pipe == 0) is_first)
      (subst (λ n. DoesAs (entering n) result) at does))

  -- in the others it goes on with what came along its line
  pub later_cell_does : (input : InputValue Item) → pipe_of work task ≢ 0 → input ≡ line_input (pipeline_of work) task found → DoesAs (goes_on op (token_of input) (place_in input) (found_text input)) result → TaskDoes (Pipe work) task found result
  unfolding entering going_on
  later_cell_does input later is does =
      by_cell (of_later (pipe_of work task == 0) (entering (next_place (pipeline_of work) (pipe_input (pipeline_of work) task found))) (going_on (line_input (pipeline_of work) task found)) result (is_later (pipe_of work task) later)
      (subst (λ i. DoesAs (going_on i) result) is (subst (λ token. DoesAs (goes_on op token (place_in input) (found_text input)) result) (token_is work input) does)))
