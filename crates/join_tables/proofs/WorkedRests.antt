-- What contracts of rests say, line by line, computed on small rests.
use Rattle.std.proofs.Common.{◌≡◌, ℕ, true, false, List, [], ◌∷◌, length, Some, None, refl, ap, arith}
use Rattle.std.proofs.lemmas.Bool.{false≢true}
use Rattle.task_graph.specs.declared.net.Shape.TheVariants.{Plain}
use Rattle.task_graph.specs.NetRows.{NetRows}
use Rattle.atomic_table.specs.Seated.{TableId}
use Rattle.journal_rules.specs.declared.entry.Cause.TheVariants.{Source}
use Rattle.journal_rules.specs.declared.entry.DropWhy.TheVariants.{Stuck, Limit, Halted as AfterFault}
use Rattle.journal_rules.specs.declared.entry.Entry.TheVariants.{Drop}
use Rattle.join_tables.specs.declared.fates.Dropping.{Dropping}
use Rattle.join_tables.specs.declared.fates.Fate.{Fate}
use Rattle.join_tables.specs.declared.fates.Fate.TheVariants.{Dropped, AllDropped}
use Rattle.join_tables.specs.declared.rests.Parked.{Parked}
use Rattle.join_tables.specs.declared.rests.Checked.TheVariants.{Busy, Alone}
use Rattle.join_tables.specs.declared.rests.UnitLook.TheVariants.{Exhausted, Available}
use Rattle.join_tables.specs.declared.rests.RestDrop.TheVariants.{More, Last}
use Rattle.join_tables.specs.States.{SpentState, turn_with}
use Rattle.join_tables.specs.Keeping.{entries_of, drop_of}
use Rattle.join_tables.specs.RestStates.{RestState, rest_with, parked_as}
use Rattle.join_tables.specs.Rests.{IsOfTable, found_with, found_left, table_left, HandsOut, ChecksRest, LooksForUnit, LastTakes, MayDropOf, DropsLast, IsOfDrops, DropsOf}

-- Task 0 takes semaphore 0, which has two units, and task 1 takes none.
abbrev net : NetRows
net = record {
  tasks = record { shape = Plain; takes = 0 ∷ []; puts = [] } ∷ record { shape = Plain; takes = []; puts = [] } ∷ [];
  edges = [];
  sems = 2 ∷ [];
}

-- a turn of task 1 was parked, and then one of task 0
abbrev two : List Parked
two = parked_as 1 Source ∷ parked_as 0 Source ∷ []

abbrev resting : TableId → RestState
resting n = rest_with (Some n) 4 two [] None [] (6 ∷ [])

-- one turn of task 0, which finds no unit
abbrev alone : TableId → RestState
alone n = rest_with (Some n) 4 (parked_as 0 Source ∷ []) [] (Some false) (0 ∷ []) []

abbrev stuck : ℕ → ℕ → Dropping
stuck task place = record { task = task; cause = Source; place = place; why = Stuck 0 }

-- TABLES
no_turn_is_of_each_table : (n : TableId) → IsOfTable n None
no_turn_is_of_each_table n = tt

turns_are_of_their_table : (n : TableId) → IsOfTable n (resting n).table
turns_are_of_their_table n = refl

-- CHECKS
busy_where_three_are_live : (n : TableId) → ChecksRest {V = ℕ} n (resting n) (Busy (rest_with (Some n) 4 two [] None [] (3 ∷ 6 ∷ [])) 3)
busy_where_three_are_live n = (refl, λ is. omega (arith, is))

not_busy_where_two_are_live : (n : TableId) (s : RestState) → ChecksRest {V = ℕ} n (resting n) (Busy s 2) → ⊥
not_busy_where_two_are_live n s checks = checks.1 refl

alone_where_two_are_live : (n : TableId) → ChecksRest {V = ℕ} n (resting n) (Alone (rest_with (Some n) 4 two [] (Some true) [] (1 ∷ 2 ∷ 6 ∷ [])) true)
alone_where_two_are_live n = (refl, (refl, (refl, ((λ is none. omega (arith, none)), (λ is. refl)))))

no_fault_without_a_mark : (n : TableId) → ChecksRest {V = ℕ} n (resting n) (Alone (rest_with (Some n) 4 two [] (Some true) [] (0 ∷ 2 ∷ 6 ∷ [])) true) → ⊥
no_fault_without_a_mark n checks = checks.1.1.1.0 refl refl

not_alone_where_three_are_live : (n : TableId) → ChecksRest {V = ℕ} n (resting n) (Alone (rest_with (Some n) 4 two [] (Some true) [] (1 ∷ 3 ∷ 6 ∷ [])) true) → ⊥
not_alone_where_three_are_live n checks = omega (arith, checks.1.1.0)

not_busy_without_a_look : (n : TableId) → ChecksRest {V = ℕ} n (resting n) (Busy (resting n) 3) → ⊥
not_busy_without_a_look n checks = omega (arith, ap (λ (s : RestState). length s.found) checks.0)

-- UNITS
no_unit_from_two_on : (n : TableId) → LooksForUnit {V = ℕ} net n (resting n) 0 (Exhausted (rest_with (Some n) 4 two [] None (0 ∷ []) (2 ∷ 6 ∷ [])))
no_unit_from_two_on n = (refl, (refl, omega arith))

a_unit_below_two : (n : TableId) → LooksForUnit {V = ℕ} net n (resting n) 0 (Available (rest_with (Some n) 4 two [] None [] (1 ∷ 6 ∷ [])))
a_unit_below_two n = (refl, (refl, omega arith))

no_refusal_below_two : (n : TableId) → LooksForUnit {V = ℕ} net n (resting n) 0 (Exhausted (rest_with (Some n) 4 two [] None (0 ∷ []) (1 ∷ 6 ∷ []))) → ⊥
no_refusal_below_two n looks = omega (arith, looks.1.1)

no_unit_without_a_look : (n : TableId) → LooksForUnit {V = ℕ} net n (resting n) 0 (Available (resting n)) → ⊥
no_unit_without_a_look n looks = omega (arith, ap length looks.1.0)

-- TURNS HANDED OUT
last_is_handed_out : (n : TableId) → HandsOut n (resting n) (rest_with (Some n) 4 (parked_as 1 Source ∷ []) [] None [] (6 ∷ [])) (turn_with n 0 Source None [] [])
last_is_handed_out n = record { turns = refl; is = refl; left = refl; table = refl }

table_stays_with_a_turn : (n : TableId) → table_left n two ≡ Some n
table_stays_with_a_turn n = refl

table_goes_with_the_last_turn : (n : TableId) → table_left n [] ≡ None
table_goes_with_the_last_turn n = refl

first_turn_gives_its_seat : (n : TableId) → found_with None [] (6 ∷ []) ≡ 6 ∷ []
first_turn_gives_its_seat n = refl

second_turn_does_not : (n : TableId) → found_with (Some n) (6 ∷ []) (7 ∷ []) ≡ 6 ∷ []
second_turn_does_not n = refl

seat_stays_with_a_turn : found_left two (6 ∷ []) ≡ 6 ∷ []
seat_stays_with_a_turn = refl

seat_goes_with_the_last_turn : found_left [] (6 ∷ []) ≡ []
seat_goes_with_the_last_turn = refl

-- DROPS
last_turn_takes_it : LastTakes net 0 two
last_turn_takes_it = refl

first_turn_takes_none : LastTakes net 0 (parked_as 1 Source ∷ []) → ⊥
first_turn_takes_none takes = absurd (false≢true takes)

dropped_after_a_fault : (n : TableId) → MayDropOf net (rest_with (Some n) 4 two [] (Some true) [] []) AfterFault
dropped_after_a_fault n = refl

dropped_where_none_comes_back : (n : TableId) → MayDropOf net (rest_with (Some n) 4 two [] (Some false) (0 ∷ []) []) (Stuck 0)
dropped_where_none_comes_back n = (refl, omega arith, refl)

not_dropped_before_it_looked : (n : TableId) → MayDropOf net (rest_with (Some n) 4 two [] (Some false) [] []) (Stuck 0) → ⊥
not_dropped_before_it_looked n may = omega (arith, may.1)

no_rest_is_dropped_at_the_limit : (r : RestState) → MayDropOf net r Limit → ⊥
no_rest_is_dropped_at_the_limit r may = may

last_is_dropped_first : (n : TableId) → DropsLast (rest_with (Some n) 4 two [] (Some false) (0 ∷ []) []) (Stuck 0) (parked_as 1 Source ∷ []) (stuck 0 7 ∷ [])
last_is_dropped_first n = record { last = parked_as 0 Source; place = 7; turns_are = refl; dropped_are = refl }

more_where_one_is_left : (n : TableId) → DropsOf {V = ℕ} n (rest_with (Some n) 4 two [] (Some false) (0 ∷ []) []) (Stuck 0) (More (rest_with (Some n) 4 (parked_as 1 Source ∷ []) (stuck 0 7 ∷ []) (Some false) (0 ∷ []) []))
more_where_one_is_left n = (refl, record { last = parked_as 0 Source; place = 7; turns_are = refl; dropped_are = refl }, λ is. omega (arith, ap length is))

no_more_where_none_is_left : (n : TableId) (r s : RestState) → s.turns ≡ [] → DropsOf {V = ℕ} n r AfterFault (More s) → ⊥
no_more_where_none_is_left n r s none drops = drops.2 none

last_where_none_is_left : (n : TableId) (spent : SpentState ℕ) → DropsOf n (alone n) (Stuck 0) (Last spent) → (spent.table ≡ n) × IsOfDrops spent.fate (λ drops. DropsLast (alone n) (Stuck 0) [] drops)
last_where_none_is_left n spent drops = drops

not_last_where_one_is_left : (n : TableId) (spent : SpentState ℕ) → DropsOf n (rest_with (Some n) 4 two [] (Some false) (0 ∷ []) []) (Stuck 0) (Last spent) → ⊥
not_last_where_one_is_left n spent drops = none (λ drops. DropsLast (rest_with (Some n) 4 two [] (Some false) (0 ∷ []) []) (Stuck 0) [] drops) spent.fate (λ ds one. omega (arith, ap length one.turns_are)) drops.1
  where
    none : (p : List Dropping → Type 0) (fate : Fate ℕ) → ((ds : List Dropping) → p ds → ⊥) → IsOfDrops fate p → ⊥
    none p (AllDropped ds) never is = never ds.items is
    none p fate never is = absurd is

one_drop_is_of_no_rest : (d : Dropping) → IsOfDrops {V = ℕ} (Dropped d) (λ drops. Unit {0}) → ⊥
one_drop_is_of_no_rest d is = is

entry_of_a_drop : entries_of {V = ℕ} (Dropped (stuck 0 7)) ≡ drop_of (stuck 0 7) ∷ []
entry_of_a_drop = refl

drop_at_its_place : drop_of (stuck 0 7) ≡ record { place = 7; entry = Drop 0 Source (Stuck 0) }
drop_at_its_place = refl
