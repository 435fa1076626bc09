-- What defers tokens, and the order in which they pass, computed on a few.
use Rattle.std.proofs.Common.{◌≡◌, ◌≢◌, ℕ, zero, suc, ◌<◌, ◌≤◌, true, false, List, [], ◌∷◌, length, replicate, Option, Some, None, refl, ap, arith}
use Rattle.std.specs.Prelude.{AllPairs}
use Rattle.std.proofs.lemmas.List.{length-replicate}
use Rattle.std.proofs.lemmas.List.Elements.{All-from_recursion, recursion_from_All}
use Rattle.pipe_lines.specs.declared.deferral.DeferRow.{DeferRow}
use Rattle.pipe_lines.specs.declared.order.Order.{Order}
use Rattle.pipe_lines.specs.declared.order.Passed.TheVariants.{Token, Stop, Unmet}
use Rattle.pipe_lines.specs.DeferRows.{AreApart, AreDeferRows, IsDeferRow, is_deferred, token_limit}
use Rattle.pipe_lines.specs.PassOrder.{freed_by, has_passed, is_free, least_left, looked_at, next_new, next_token, pass_order, passes, resumed, targets}
use Rattle.pipe_lines.specs.Orders.{IsOrder, passed_at}
use Rattle.pipe_lines.specs.OrderRules.{PassAll, PassInTurn, PassOnce}
use Rattle.pipe_lines.specs.Gates.{GateView, after_pass}

abbrev waiting : ℕ → List ℕ → DeferRow
waiting token to = record { token = token; to = to }

-- ---- rows

greatest_row : IsDeferRow (waiting 65535 (0 ∷ 0 ∷ 1 ∷ 2 ∷ 3 ∷ 4 ∷ 5 ∷ 1000000 ∷ []))
greatest_row = record {
  may_come = omega arith;
  some = omega arith;
  few = omega arith;
  in_range = All-from_recursion (λ target. target ≤ 1000000) (0 ∷ 0 ∷ 1 ∷ 2 ∷ 3 ∷ 4 ∷ 5 ∷ 1000000 ∷ [])
      (omega arith, (omega arith, (omega arith, (omega arith, (omega arith, (omega arith, (omega arith, (omega arith, tt))))))));
}

token_past_the_limit : ¬ IsDeferRow (waiting 65536 (0 ∷ []))
token_past_the_limit is = absurd (omega (arith, is.may_come))

row_without_targets : ¬ IsDeferRow (waiting 1 [])
row_without_targets is = absurd (omega (arith, is.some))

row_of_nine_targets : ¬ IsDeferRow (waiting 1 (0 ∷ 0 ∷ 0 ∷ 0 ∷ 0 ∷ 0 ∷ 0 ∷ 0 ∷ 0 ∷ []))
row_of_nine_targets is = absurd (omega (arith, is.few))

target_past_the_limit : ¬ IsDeferRow (waiting 1 (0 ∷ 1000001 ∷ []))
target_past_the_limit is = absurd (omega (arith, (recursion_from_All (λ target. target ≤ 1000000) (0 ∷ 1000001 ∷ []) is.in_range).1.0))

two_of_one_token : ¬ AreApart (waiting 1 (2 ∷ []) ∷ waiting 1 (3 ∷ []) ∷ [])
two_of_one_token is = absurd (is 0 1 (waiting 1 []) (omega arith) (omega arith) refl)

-- Of five tokens 1 waits for 3, and 2 for 1.
abbrev deferred : List DeferRow
deferred = waiting 1 (3 ∷ []) ∷ waiting 2 (1 ∷ []) ∷ []

two_tokens : AreApart deferred
two_tokens zero zero d less below = absurd (omega (arith, less))
two_tokens zero (suc zero) d less below = λ same. absurd (omega (arith, same))
two_tokens zero (suc (suc j)) d less below = absurd (omega (arith, below))
two_tokens (suc i) zero d less below = absurd (omega (arith, less))
two_tokens (suc i) (suc j) d less below = absurd (omega (arith, less, below))

two_rows : AreDeferRows deferred
two_rows = record {
  few = omega arith;
  each = All-from_recursion IsDeferRow deferred (fits 1 3 (omega arith) (omega arith), (fits 2 1 (omega arith) (omega arith), tt));
  apart = two_tokens;
}
  where
    fits : (token target : ℕ) → token < 65536 → target ≤ 1000000 → IsDeferRow (waiting token (target ∷ []))
    fits token target comes in_range = record {
      may_come = comes;
      some = omega arith;
      few = omega arith;
      in_range = All-from_recursion (λ t. t ≤ 1000000) (target ∷ []) (in_range, tt);
    }

too_many_rows : ¬ AreDeferRows (replicate 257 (waiting 1 (0 ∷ [])))
too_many_rows is = absurd (omega (arith, is.few, length-replicate 257 (waiting 1 (0 ∷ []))))

row_past_its_limits : ¬ AreDeferRows (waiting 1 [] ∷ [])
row_past_its_limits is = row_without_targets (recursion_from_All IsDeferRow (waiting 1 [] ∷ []) is.each).0

rows_of_one_token : ¬ AreDeferRows (waiting 1 (2 ∷ []) ∷ waiting 1 (3 ∷ []) ∷ [])
rows_of_one_token is = two_of_one_token is.apart

has_a_row : (is_deferred deferred 2 ≡ true) × (is_deferred deferred 3 ≡ false)
has_a_row = (refl, refl)

-- ---- which token is next

targets_of_two : (targets deferred 1 ≡ 3 ∷ []) × (targets deferred 2 ≡ 1 ∷ []) × (targets deferred 3 ≡ [])
targets_of_two = (refl, refl, refl)

passed_or_not : (has_passed (0 ∷ 3 ∷ []) 3 ≡ true) × (has_passed (0 ∷ 3 ∷ []) 1 ≡ false)
passed_or_not = (refl, refl)

-- A token is free where all its targets have passed.
free_or_not : (is_free (waiting 0 (1 ∷ 2 ∷ []) ∷ []) (1 ∷ []) 0 ≡ false) × (is_free (waiting 0 (1 ∷ 2 ∷ []) ∷ []) (1 ∷ 2 ∷ []) 0 ≡ true) × (is_free (waiting 0 (1 ∷ 2 ∷ []) ∷ []) [] 1 ≡ true)
free_or_not = (refl, refl, refl)

-- those below the greatest that has passed
looked : (looked_at [] ≡ 0) × (looked_at (0 ∷ 3 ∷ 1 ∷ []) ≡ 4)
looked = (refl, refl)

-- 1 is free by two passes, and not by one
freed_by_passes : (freed_by deferred (0 ∷ 3 ∷ []) 1 ≡ None) × (freed_by deferred (0 ∷ 3 ∷ []) 2 ≡ Some 1)
freed_by_passes = (refl, refl)

resumed_or_not : (resumed deferred (0 ∷ []) ≡ None) × (resumed deferred (0 ∷ 3 ∷ []) ≡ Some 1) × (resumed deferred (0 ∷ 3 ∷ 1 ∷ []) ≡ Some 2)
resumed_or_not = (refl, refl, refl)

new_ones : (next_new 5 deferred (0 ∷ []) ≡ Some 3) × (next_new 5 deferred (0 ∷ 3 ∷ []) ≡ Some 4) × (next_new 4 deferred (0 ∷ 3 ∷ []) ≡ None)
new_ones = (refl, refl, refl)

-- One that waited goes before a new one.
next_ones : (next_token 5 deferred (0 ∷ []) ≡ Some 3) × (next_token 5 deferred (0 ∷ 3 ∷ []) ≡ Some 1) × (next_token 5 deferred (0 ∷ 3 ∷ 1 ∷ 2 ∷ 4 ∷ []) ≡ None)
next_ones = (refl, refl, refl)

two_more : passes 5 deferred 2 (0 ∷ 3 ∷ []) ≡ 0 ∷ 3 ∷ 1 ∷ 2 ∷ []
two_more = refl

-- ---- orders

in_turn : pass_order 3 [] ≡ 0 ∷ 1 ∷ 2 ∷ []
in_turn = refl

without_tokens : pass_order 0 deferred ≡ []
without_tokens = refl

behind_their_targets : pass_order 5 deferred ≡ 0 ∷ 3 ∷ 1 ∷ 2 ∷ 4 ∷ []
behind_their_targets = refl

-- 1 and 2 are freed by the pass of 3, and 0 by that of 1: so 2 goes before 0.
first_freed_first : pass_order 5 (waiting 0 (1 ∷ []) ∷ waiting 1 (3 ∷ []) ∷ waiting 2 (3 ∷ []) ∷ []) ≡ 3 ∷ 1 ∷ 2 ∷ 0 ∷ 4 ∷ []
first_freed_first = refl

-- 0 waits for both.
behind_the_last_target : pass_order 4 (waiting 0 (1 ∷ 2 ∷ []) ∷ []) ≡ 1 ∷ 2 ∷ 0 ∷ 3 ∷ []
behind_the_last_target = refl

-- One whose targets have passed does not wait, nor does one without targets.
not_deferred : (pass_order 3 (waiting 2 (0 ∷ []) ∷ []) ≡ 0 ∷ 1 ∷ 2 ∷ []) × (pass_order 3 (waiting 1 [] ∷ []) ≡ 0 ∷ 1 ∷ 2 ∷ [])
not_deferred = (refl, refl)

-- ---- tokens that never pass

for_itself : (pass_order 3 (waiting 1 (1 ∷ []) ∷ []) ≡ 0 ∷ 2 ∷ []) × (least_left 3 (0 ∷ 2 ∷ []) ≡ Some 1)
for_itself = (refl, refl)

for_one_that_never_comes : (pass_order 3 (waiting 1 (9 ∷ []) ∷ waiting 7 (0 ∷ []) ∷ []) ≡ 0 ∷ 2 ∷ []) × (least_left 3 (0 ∷ 2 ∷ []) ≡ Some 1)
for_one_that_never_comes = (refl, refl)

in_a_circle : (pass_order 5 (waiting 1 (3 ∷ []) ∷ waiting 3 (1 ∷ []) ∷ []) ≡ 0 ∷ 2 ∷ 4 ∷ []) × (least_left 5 (0 ∷ 2 ∷ 4 ∷ []) ≡ Some 1)
in_a_circle = (refl, refl)

none_left : least_left 3 (2 ∷ 0 ∷ 1 ∷ []) ≡ None
none_left = refl

-- ---- orders as values

abbrev order : List ℕ → Option ℕ → Order
order passed unmet = record { passed = passed; unmet = unmet }

-- a token at its place; behind the last one the end, or the least that never passes
at_places : (passed_at (order (0 ∷ 2 ∷ []) (Some 1)) 1 ≡ Token 2) × (passed_at (order (0 ∷ 2 ∷ []) (Some 1)) 2 ≡ Unmet 1) × (passed_at (order (0 ∷ 2 ∷ []) (Some 1)) 9 ≡ Unmet 1)
at_places = (refl, refl, refl)

at_the_end : (passed_at (order (0 ∷ []) None) 0 ≡ Token 0) × (passed_at (order (0 ∷ []) None) 1 ≡ Stop)
at_the_end = (refl, refl)

is_order : IsOrder 3 (waiting 1 (1 ∷ []) ∷ []) (order (0 ∷ 2 ∷ []) (Some 1))
is_order = record { passed = refl; unmet = refl }

order_without_the_one_that_is_left : ¬ IsOrder 3 (waiting 1 (1 ∷ []) ∷ []) (order (0 ∷ 2 ∷ []) None)
order_without_the_one_that_is_left is = let other : ◌≡◌ {A = Option ℕ} None (Some 1) = is.unmet in absurd (cc)

order_of_others : ¬ IsOrder 3 [] (order (0 ∷ 2 ∷ []) (Some 1))
order_of_others is = absurd (omega (arith, ap length is.passed))

most_tokens : token_limit ≡ 65536
most_tokens = refl

abbrev gate : ℕ → GateView
gate place = record { order = order (0 ∷ 2 ∷ []) (Some 1); place = place }

-- A token takes the gate to the next place; at the end it stays.
gates_behind : (after_pass (gate 0) ≡ gate 1) × (after_pass (gate 2) ≡ gate 2) × (after_pass (record { order = order [] None; place = 0 }) ≡ record { order = order [] None; place = 0 })
gates_behind = (refl, refl, refl)

-- ---- the laws of one order

once_by_law : PassOnce → AllPairs {X = ℕ} (λ a b. a ≢ b) (0 ∷ 3 ∷ 1 ∷ 2 ∷ 4 ∷ [])
once_by_law law = law 5 deferred

all_by_law : PassAll → (has_passed (0 ∷ 3 ∷ 1 ∷ 2 ∷ 4 ∷ []) 4 ≡ true)
all_by_law law = law 5 deferred refl 4 (omega arith)

in_turn_by_law : PassInTurn → pass_order 3 [] ≡ 0 ∷ 1 ∷ 2 ∷ []
in_turn_by_law law = law 3
