-- What small pipelines come to, computed.
use Rattle.std.proofs.Common.{◌≡◌, ℕ, ◌<◌, ◌≤◌, true, false, cond, List, [], ◌∷◌, ◌++◌, length, Option, Some, None, refl, sym, ap, ◌∙◌, arith, codes}
use Rattle.std.specs.Prelude.{is_none, nat_le, slice_index_or}
use Rattle.std.specs.Fmt.{digits}
use Rattle.std.specs.Option.{option_and_then, option_map}
use Rattle.std.proofs.lemmas.Bool.Decides.{nat_tests}
use Rattle.std.proofs.lemmas.Option.{none-some}
use Rattle.run_frame.specs.declared.run.FrameRun.{FrameRun}
use Rattle.run_frame.specs.Legal.{IsKept}
use Rattle.run_frame.specs.NestedRule.{job_of, journal_of}
use Rattle.run_frame.specs.Runs.{IsFine}
use Rattle.graph_plans.specs.declared.ops.TextOp.TheVariants.{Head, Without}
use Rattle.graph_plans.specs.declared.pipes.LineOp.{LineOp}
use Rattle.graph_plans.specs.declared.pipes.LineOp.TheVariants.{Text as OnText, Number, Stamp}
use Rattle.pipe_lines.specs.declared.order.Order.{Order}
use Rattle.text_ops.specs.Values.{value_limit}
use Rattle.text_tasks.specs.declared.item.Item.{Item}
use Rattle.text_tasks.specs.declared.item.Item.TheVariants.{Text}
use Rattle.text_tasks.specs.declared.job.TextJob.{TextJob}
use Rattle.text_tasks.specs.declared.job.TextJob.TheVariants.{Graph, Pipe}
use Rattle.text_tasks.specs.CellMeaning.{line_op_value}
use Rattle.text_tasks.specs.GraphWork.{GraphWork}
use Rattle.text_tasks.specs.JobMeaning.{limit_of, text_job}
use Rattle.text_tasks.specs.PipeWork.{IsPipeWork, PipeWork, order_of}
use Rattle.run_laws.specs.TextAnswers.{as_value}
use Rattle.pipe_values.specs.Laws.{ComesToPipeValue}
use Rattle.pipe_values.specs.PipeValue.{pipe_value, text_behind, texts_behind}

-- two parts, whose lines get the token's number at the first pipe and its place at the second
abbrev two_parts : Order → PipeWork
two_parts order = record { spec = record { lines = 2; serial = true ∷ true ∷ [] }; ops = Number ∷ Stamp ∷ []; parts = codes "a\n" ∷ codes "b\n" ∷ []; order = order }

in_order : PipeWork
in_order = two_parts (order_of 2 [])

-- Token 0 waits for 1.
exchanged : PipeWork
exchanged = two_parts (order_of 2 (record { token = 0; to = 1 ∷ [] } ∷ []))

-- Token 0 waits for one that never comes.
one_left : PipeWork
one_left = two_parts (order_of 2 (record { token = 0; to = 7 ∷ [] } ∷ []))

too_long : (text : List ℕ) → value_limit < length text → nat_le (length text) value_limit ≡ false
too_long text over = grind (arith, nat_tests)

-- ---- the text of one token

-- behind no pipe it is what it was, however long
behind_no_pipe : (text : List ℕ) → text_behind [] 1 0 text ≡ Some text
behind_no_pipe text = refl

behind_one : text_behind (Stamp ∷ []) 1 0 (codes "b\n") ≡ Some (codes "0 b\n")
unfolding digits
behind_one = refl

behind_two : text_behind (Number ∷ Stamp ∷ []) 1 0 (codes "b\n") ≡ Some (codes "0 1 b\n")
unfolding digits
behind_two = refl

-- the pipes come one after another
in_this_order : text_behind (Number ∷ OnText (Without (codes "1")) ∷ []) 1 0 (codes "b\n") ≡ Some []
unfolding digits
in_this_order = refl

in_that_order : text_behind (OnText (Without (codes "1")) ∷ Number ∷ []) 1 0 (codes "b\n") ≡ Some (codes "1 b\n")
unfolding digits
in_that_order = refl

-- nothing comes of a text on the way that is too long, whatever the pipes behind make of it
too_long_behind_a_pipe : (ops : List LineOp) (text : List ℕ) → value_limit < length (line_op_value Number 1 0 text) → text_behind (Number ∷ ops) 1 0 text ≡ None
too_long_behind_a_pipe ops text over = ap (λ b. cond b (text_behind ops 1 0 (line_op_value Number 1 0 text)) None) (too_long (line_op_value Number 1 0 text) over)

too_long_at_the_second : (text : List ℕ) → length (line_op_value Number 1 0 text) ≤ value_limit → value_limit < length (line_op_value Stamp 1 0 (line_op_value Number 1 0 text)) → text_behind (Number ∷ Stamp ∷ OnText (Head 0) ∷ []) 1 0 text ≡ None
too_long_at_the_second text short over =
    let numbered : List ℕ = line_op_value Number 1 0 text in
    let fits : nat_le (length numbered) value_limit ≡ true = grind (arith, nat_tests) in
    ap (λ b. cond b (text_behind (Stamp ∷ OnText (Head 0) ∷ []) 1 0 numbered) None) fits
    ∙ ap (λ b. cond b (text_behind (OnText (Head 0) ∷ []) 1 0 (line_op_value Stamp 1 0 numbered)) None) (too_long (line_op_value Stamp 1 0 numbered) over)

-- ---- the texts of all

of_no_token : texts_behind in_order 3 [] ≡ Some []
of_no_token = refl

-- the first one has the place, the next the one behind it
from_place_3 : texts_behind in_order 3 (1 ∷ 0 ∷ []) ≡ Some (codes "3 1 b\n4 0 a\n")
unfolding in_order digits
from_place_3 = refl

-- a token without a part has the empty text
without_a_part : texts_behind in_order 0 (5 ∷ 0 ∷ []) ≡ Some (codes "1 0 a\n")
unfolding in_order digits
without_a_part = refl

-- nothing comes of all where nothing comes of one
module _ (work : PipeWork) (a b : List ℕ) (is_a : work.parts ≡ a ∷ b ∷ []) where
  -- with the texts of the other tokens behind it
  before_the_next : List ℕ → Option (List ℕ)
  before_the_next text = option_map (λ texts. text ++ texts) (texts_behind work 1 (1 ∷ []))

  first_part : texts_behind work 0 (0 ∷ 1 ∷ []) ≡ option_and_then before_the_next (text_behind work.ops 0 0 a)
  unfolding before_the_next
  first_part = ap (λ parts. option_and_then before_the_next (text_behind work.ops 0 0 (slice_index_or parts 0 []))) is_a

  next_part : texts_behind work 1 (1 ∷ []) ≡ option_and_then (λ text. Some (text ++ [])) (text_behind work.ops 1 1 b)
  next_part = ap (λ parts. option_and_then (λ text. Some (text ++ [])) (text_behind work.ops 1 1 (slice_index_or parts 1 []))) is_a

  none_of_the_first : text_behind work.ops 0 0 a ≡ None → texts_behind work 0 (0 ∷ 1 ∷ []) ≡ None
  none_of_the_first none = first_part ∙ ap (option_and_then before_the_next) none

  none_of_the_next : (text : List ℕ) → text_behind work.ops 0 0 a ≡ Some text → text_behind work.ops 1 1 b ≡ None → texts_behind work 0 (0 ∷ 1 ∷ []) ≡ None
  unfolding before_the_next
  none_of_the_next text some none =
      first_part ∙ ap (option_and_then before_the_next) some ∙ ap (option_map (λ texts. text ++ texts)) (next_part ∙ ap (option_and_then (λ t. Some (t ++ []))) none)

-- ---- pipelines

value_in_order : pipe_value in_order ≡ Some (Text (codes "0 0 a\n1 1 b\n"))
unfolding in_order digits
value_in_order = refl

value_exchanged : pipe_value exchanged ≡ Some (Text (codes "0 1 b\n1 0 a\n"))
unfolding exchanged digits
value_exchanged = refl

-- a token never passes, though another does
one_passes : (one_left.order.passed ≡ 1 ∷ []) × (one_left.order.unmet ≡ Some 0)
unfolding one_left
one_passes = (refl, refl)

value_one_left : pipe_value one_left ≡ None
unfolding one_left
value_one_left = refl

-- no token comes to the empty text
value_of_none : pipe_value (two_parts (order_of 0 [])) ≡ Some (Text [])
value_of_none = refl

module _ (work : PipeWork) (none_left : work.order.unmet ≡ None) where
  without_a_left : pipe_value work ≡ option_and_then as_value (texts_behind work 0 work.order.passed)
  without_a_left = ap (λ left. cond (is_none left) (option_and_then as_value (texts_behind work 0 work.order.passed)) None) none_left

  -- a text on the way is too long
  value_on_the_way : texts_behind work 0 work.order.passed ≡ None → pipe_value work ≡ None
  value_on_the_way none = without_a_left ∙ ap (option_and_then as_value) none

  -- all of them together are
  value_together : (texts : List ℕ) → texts_behind work 0 work.order.passed ≡ Some texts → value_limit < length texts → pipe_value work ≡ None
  value_together texts some over = without_a_left ∙ ap (option_and_then as_value) some ∙ ap (λ b. cond b (Some (Text texts)) None) (too_long texts over)

-- ---- the law

-- it says nothing of other jobs
of_a_graph : (run : FrameRun TextJob Item) (work : GraphWork) → job_of run ≡ Graph work → ComesToPipeValue run
of_a_graph run graph is work same = absurd (let never : Graph graph ≡ Pipe work = sym is ∙ same in cc)

-- By it no fine run is gathered where a token is left,
none_gathered : (run : FrameRun TextJob Item) → ComesToPipeValue run → job_of run ≡ Pipe one_left → IsPipeWork one_left → length one_left.order.passed ≤ length one_left.parts → IsKept text_job run → (v : Item) → IsFine (journal_of run)
    → text_job.gathers (job_of run) run v → ⊥
none_gathered run law same is few kept v fine gathers = none-some v (sym value_one_left ∙ (law one_left same is few kept).value v fine gathers)

-- and a run of the two parts is fine.
fine_in_order : (run : FrameRun TextJob Item) → ComesToPipeValue run → job_of run ≡ Pipe in_order → IsPipeWork in_order → length in_order.order.passed ≤ length in_order.parts → IsKept text_job run → ¬ IsFine (journal_of run) → ⊥
fine_in_order run law same is few kept cut = none-some (Text (codes "0 0 a\n1 1 b\n")) (sym ((law in_order same is few kept).short cut) ∙ value_in_order)

-- The limit is by the parts: with one part and two tokens there are fewer starts than the tokens need.
limit_by_parts : limit_of (Pipe (record (two_parts (order_of 2 [])) { parts = codes "a\n" ∷ [] })) ≡ 3
limit_by_parts = refl
