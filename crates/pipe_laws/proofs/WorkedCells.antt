-- What cells find, meet and answer, computed on two lines and two pipes.
use Rattle.std.proofs.Common.{◌≡◌, ℕ, zero, suc, ◌<◌, ◌≤◌, ◌==◌, true, false, List, [], ◌∷◌, length, replicate, Option, Some, None, if◌then◌else◌, refl, ap, sym, ◌∙◌, arith}
use Rattle.std.proofs.lemmas.List.{length-replicate}
use Rattle.std.proofs.lemmas.Option.{none-some, same_Some}
use Rattle.task_graph.specs.Net.{out_edges, strong_in}
use Rattle.join_words.specs.Ins.{InputValue, value, first, nothing}
use Rattle.pipe_lines.specs.declared.deferral.DeferRow.{DeferRow}
use Rattle.pipe_lines.specs.declared.order.Order.{Order}
use Rattle.pipe_lines.specs.declared.order.Passed.{Passed}
use Rattle.pipe_lines.specs.declared.order.Passed.TheVariants.{Token, Stop, Unmet}
use Rattle.pipe_lines.specs.Orders.{IsOrder}
use Rattle.pipe_lines.specs.PipeNet.{pipe_net}
use Rattle.run_laws.specs.OneThreadValue.{TaskEnd, OneAnswer}
use Rattle.text_tasks.specs.Cells.{Pipeline, along_pipe, cell_task, edges_for, input_where, line_input, meets, next_place, pipe_input, pipeline_net, token_in}
use Rattle.pipe_laws.specs.Cells.{AreCells}

-- a token with its place
abbrev pub Pair : Type 0
Pair = ℕ × ℕ

-- Two lines with a serial and a parallel pipe: the tasks 0 and 1 are the first line, 2 and 3 the second.
abbrev pub two_by_two : Order → Pipeline Pair
two_by_two order = record { lines = 2; serials = true ∷ false ∷ []; order = order; token = λ v. v.0; place = λ v. v.1 }

-- Token 0 waits for 1.
abbrev waits : List DeferRow
waits = record { token = 0; to = 1 ∷ [] } ∷ []

abbrev pub one_before : Order
one_before = record { passed = 1 ∷ 0 ∷ []; unmet = None }

is_the_order : IsOrder 2 waits one_before
is_the_order = record { passed = refl; unmet = refl }

-- Token 2 waits besides, for one that never comes.
abbrev pub two_left : Order
two_left = record { passed = 1 ∷ 0 ∷ []; unmet = Some 2 }

is_that_order : IsOrder 3 (record { token = 2; to = 7 ∷ [] } ∷ waits) two_left
is_that_order = record { passed = refl; unmet = refl }

abbrev pub passing : Pipeline Pair
passing = two_by_two one_before

abbrev pub leaving : Pipeline Pair
leaving = two_by_two two_left

-- ---- what a start finds

net_and_tasks : (pipeline_net passing ≡ pipe_net 2 (true ∷ false ∷ [])) × (cell_task passing 0 1 ≡ 1) × (cell_task passing 1 0 ≡ 2)
net_and_tasks = (refl, refl, refl)

-- edge 0 leads along the first line, 1 along the first pipe; edge 6 isn't there
edges_along : (along_pipe passing 0 ≡ false) × (along_pipe passing 1 ≡ true) × (along_pipe passing 4 ≡ true) × (along_pipe passing 5 ≡ false) × (along_pipe passing 6 ≡ false)
edges_along = (refl, refl, refl, refl, refl)

abbrev pair : ℕ → ℕ → InputValue Pair
pair k n = value (k, n)

first_that_passes : (input_where (λ e. e == 5) (3 ∷ 5 ∷ 5 ∷ []) (first ∷ pair 8 1 ∷ pair 9 2 ∷ []) ≡ pair 8 1) × (input_where (λ e. e == 4) (3 ∷ 5 ∷ []) (first ∷ pair 8 1 ∷ []) ≡ nothing)
    × (input_where {V = Pair} (λ e. e == 5) (3 ∷ 5 ∷ []) (first ∷ []) ≡ nothing) × (input_where {V = Pair} (λ e. e == 5) [] (first ∷ []) ≡ nothing)
first_that_passes = (refl, refl, refl, refl)

-- The edges into task 0 are 2, along its line, and 4; those into task 2 are 1, along the pipe, and 5.
inputs_of_cells : (strong_in (pipeline_net passing) 0 ≡ 2 ∷ 4 ∷ []) × (strong_in (pipeline_net passing) 2 ≡ 1 ∷ 5 ∷ [])
    × (line_input passing 0 (pair 8 1 ∷ pair 9 2 ∷ []) ≡ pair 8 1) × (pipe_input passing 0 (pair 8 1 ∷ pair 9 2 ∷ []) ≡ pair 9 2)
    × (line_input passing 2 (pair 8 1 ∷ pair 9 2 ∷ []) ≡ pair 9 2) × (pipe_input passing 2 (pair 8 1 ∷ pair 9 2 ∷ []) ≡ pair 8 1)
    × (line_input passing 3 (pair 8 1 ∷ []) ≡ pair 8 1) × (pipe_input passing 3 (pair 8 1 ∷ []) ≡ nothing)
inputs_of_cells = (refl, refl, refl, refl, refl, refl, refl, refl)

next_places : (next_place passing (pair 8 5) ≡ 6) × (next_place passing (pair 8 18446744073709551614) ≡ 18446744073709551615) × (next_place passing (pair 8 18446744073709551615) ≡ 18446744073709551615)
    × (next_place passing first ≡ 0) × (next_place passing nothing ≡ 0)
next_places = (refl, refl, refl, refl, refl)

tokens_in : (token_in passing (pair 8 5) ≡ 8) × (token_in passing first ≡ 0) × (token_in passing nothing ≡ 0)
tokens_in = (refl, refl, refl)

-- ---- what cells meet and signal

first_pipe_meets : (meets passing 0 0 (first ∷ first ∷ []) ≡ Token 1) × (meets passing 0 2 (pair 1 0 ∷ first ∷ []) ≡ Token 0) × (meets passing 0 0 (pair 9 9 ∷ pair 0 1 ∷ []) ≡ Stop)
    × (meets leaving 0 0 (pair 9 9 ∷ pair 0 1 ∷ []) ≡ Unmet 2)
first_pipe_meets = (refl, refl, refl, refl)

later_pipe_meets : (meets passing 1 1 (pair 8 5 ∷ []) ≡ Token 8) × (meets leaving 1 3 (pair 2 0 ∷ []) ≡ Token 2)
later_pipe_meets = (refl, refl)

edges_signalled : (edges_for (Token 8) (3 ∷ 4 ∷ []) ≡ 3 ∷ 4 ∷ []) × (edges_for Stop (3 ∷ 4 ∷ []) ≡ []) × (edges_for (Unmet 8) (3 ∷ 4 ∷ []) ≡ [])
edges_signalled = (refl, refl, refl)

-- ---- answers of cells

-- the pipe of a task
abbrev pipe_of : ℕ → ℕ
pipe_of zero = 0
pipe_of (suc zero) = 1
pipe_of (suc (suc t)) = pipe_of t

-- an end with the token that was met, and a place
abbrev end_on : Passed → ℕ → List ℕ → Option (TaskEnd Pair)
end_on (Token k) n out = Some (record { value = (k, n); gives = out })
end_on Stop n out = Some (record { value = (0, n); gives = [] })
end_on (Unmet k) n out = None

abbrev pub pairs : Pipeline Pair → OneAnswer Pair
pairs pipeline t found = end_on (meets pipeline (pipe_of t) t found) (next_place pipeline (pipe_input pipeline t found)) (out_edges (pipeline_net pipeline) t)

gives_and_place : (m : Passed) (n : ℕ) (out : List ℕ) (end : TaskEnd Pair) → end_on m n out ≡ Some end → (end.gives ≡ edges_for m out) × (end.value.1 ≡ n)
gives_and_place (Token k) n out end is = let same : record { value = (k, n); gives = out } ≡ end = same_Some _ _ is in (sym (ap (λ (e : TaskEnd Pair). e.gives) same), sym (ap (λ (e : TaskEnd Pair). e.value.1) same))
gives_and_place Stop n out end is = let same : record { value = (0, n); gives = [] } ≡ end = same_Some _ _ is in (sym (ap (λ (e : TaskEnd Pair). e.gives) same), sym (ap (λ (e : TaskEnd Pair). e.value.1) same))
gives_and_place (Unmet k) n out end is = absurd (none-some end is)

token_met : (m : Passed) (n k : ℕ) (out : List ℕ) (end : TaskEnd Pair) → end_on m n out ≡ Some end → m ≡ Token k → end.value.0 ≡ k
token_met m n k out end is met = let same : record { value = (k, n); gives = out } ≡ end = same_Some _ _ (sym (ap (λ p. end_on p n out) met) ∙ is) in sym (ap (λ (e : TaskEnd Pair). e.value.0) same)

-- what the cell of a pipe answers
abbrev answer_of : Order → ℕ → ℕ → List (InputValue Pair) → Option (TaskEnd Pair)
answer_of order p t found = end_on (meets (two_by_two order) p t found) (next_place (two_by_two order) (pipe_input (two_by_two order) t found)) (out_edges (pipeline_net (two_by_two order)) t)

-- answers as those of the four cells are cells, whatever other tasks answer
abbrev AnswersAt : Order → OneAnswer Pair → ℕ → ℕ → Type 0
AnswersAt order one l p = (found : List (InputValue Pair)) → one (cell_task (two_by_two order) l p) found ≡ answer_of order p (cell_task (two_by_two order) l p) found

of_four : (P : ℕ → ℕ → Type 0) → P 0 0 → P 0 1 → P 1 0 → P 1 1 → (l p : ℕ) → l < 2 → p < 2 → P l p
of_four P a b c d zero zero in_l in_p = a
of_four P a b c d zero (suc zero) in_l in_p = b
of_four P a b c d (suc zero) zero in_l in_p = c
of_four P a b c d (suc zero) (suc zero) in_l in_p = d
of_four P a b c d (suc (suc l)) p in_l in_p = absurd (omega (arith, in_l))
of_four P a b c d l (suc (suc p)) in_l in_p = absurd (omega (arith, in_p))

are_cells : (order : Order) (one : OneAnswer Pair) → length order.passed ≤ 65536 → ((l p : ℕ) → l < 2 → p < 2 → AnswersAt order one l p) → AreCells (two_by_two order) one
are_cells order one short same = record {
  few = omega (arith, short);
  place = λ l found end in_l is. (gives_and_place _ _ _ end (sym (same l 0 in_l (omega arith) found) ∙ is)).1;
  token = λ l p k found end in_l in_p is met. token_met _ _ k _ end (sym (same l p in_l in_p found) ∙ is) met;
  gives = λ l p found end in_l in_p is. (gives_and_place _ _ _ end (sym (same l p in_l in_p found) ∙ is)).0;
  unmet = λ l k found in_l met. same l 0 in_l (omega arith) found ∙ ap (λ m. end_on m (next_place (two_by_two order) (pipe_input (two_by_two order) (cell_task (two_by_two order) l 0) found)) (out_edges (pipeline_net (two_by_two order)) (cell_task (two_by_two order) l 0))) met;
}

pub pairs_are_cells : AreCells passing (pairs passing) × AreCells leaving (pairs leaving)
pairs_are_cells = (
  are_cells one_before (pairs passing) (omega arith) (of_four (AnswersAt one_before (pairs passing)) (λ f. refl) (λ f. refl) (λ f. refl) (λ f. refl)),
  are_cells two_left (pairs leaving) (omega arith) (of_four (AnswersAt two_left (pairs leaving)) (λ f. refl) (λ f. refl) (λ f. refl) (λ f. refl)),
)

-- the same, but this is the answer of one task
abbrev pub but_at : ℕ → Option (TaskEnd Pair) → Pipeline Pair → OneAnswer Pair
but_at at end pipeline t found = if t == at then end else pairs pipeline t found

abbrev pub ends : ℕ → ℕ → List ℕ → Option (TaskEnd Pair)
ends k n out = Some (record { value = (k, n); gives = out })

-- what a task beyond the net answers is free
beyond_the_net : AreCells passing (but_at 4 (ends 9 9 (9 ∷ [])) passing)
beyond_the_net = are_cells one_before (but_at 4 (ends 9 9 (9 ∷ [])) passing) (omega arith) (of_four (AnswersAt one_before (but_at 4 (ends 9 9 (9 ∷ [])) passing)) (λ f. refl) (λ f. refl) (λ f. refl) (λ f. refl))

-- a cell of the second line that ends with the next place but one
place_left_out : ¬ AreCells passing (but_at 2 (ends 0 2 (3 ∷ 4 ∷ [])) passing)
place_left_out are = absurd (omega (arith, are.place 1 (pair 1 0 ∷ first ∷ []) (record { value = (0, 2); gives = 3 ∷ 4 ∷ [] }) (omega arith) refl))

-- one of the first pipe with a token that isn't there, and one of the second that ends with another
token_that_did_not_pass : ¬ AreCells passing (but_at 0 (ends 9 0 (0 ∷ 1 ∷ [])) passing)
token_that_did_not_pass are = absurd (omega (arith, are.token 0 0 1 (first ∷ first ∷ []) (record { value = (9, 0); gives = 0 ∷ 1 ∷ [] }) (omega arith) (omega arith) refl refl))

token_of_another : ¬ AreCells passing (but_at 3 (ends 9 0 (5 ∷ [])) passing)
token_of_another are = absurd (omega (arith, are.token 1 1 0 (pair 0 1 ∷ []) (record { value = (9, 0); gives = 5 ∷ [] }) (omega arith) (omega arith) refl refl))

-- one that signals nothing for a token, and one that signals edges at the end
abbrev count : List ℕ → ℕ
count edges = length edges

pub token_held_back : ¬ AreCells passing (but_at 0 (ends 1 0 []) passing)
token_held_back are = absurd (omega (arith, ap count (are.gives 0 0 (first ∷ first ∷ []) (record { value = (1, 0); gives = [] }) (omega arith) (omega arith) refl)))

token_behind_the_end : ¬ AreCells passing (but_at 2 (ends 0 2 (3 ∷ 4 ∷ [])) passing)
token_behind_the_end are = absurd (omega (arith, ap count (are.gives 1 0 (pair 0 1 ∷ first ∷ []) (record { value = (0, 2); gives = 3 ∷ 4 ∷ [] }) (omega arith) (omega arith) refl)))

-- one that answers though its token never passes
answer_without_a_token : ¬ AreCells leaving (but_at 0 (ends 0 2 []) leaving)
answer_without_a_token are = let none : Some (record { value = (0, 2); gives = [] }) ≡ None = are.unmet 0 2 (first ∷ pair 0 1 ∷ []) (omega arith) refl in absurd (none-some _ (sym none))

abbrev so_many : ℕ → Order
so_many n = record { passed = replicate n 0; unmet = None }

most_tokens : AreCells (two_by_two (so_many 65536)) (pairs (two_by_two (so_many 65536)))
most_tokens = are_cells (so_many 65536) (pairs (two_by_two (so_many 65536))) (omega (arith, length-replicate {A = ℕ} 65536 0)) (of_four (AnswersAt (so_many 65536) (pairs (two_by_two (so_many 65536)))) (λ f. refl) (λ f. refl) (λ f. refl) (λ f. refl))

too_many_tokens : ¬ AreCells (two_by_two (so_many 65537)) (pairs (two_by_two (so_many 65537)))
too_many_tokens are = absurd (omega (arith, are.few, length-replicate {A = ℕ} 65537 0))
