-- Histories of desks that were worked out by hand, right ones and others.
use Rattle.std.proofs.Common.{◌≡◌, ◌∙◌, ℕ, zero, suc, ◌<◌, true, false, List, [], ◌∷◌, ◌++◌, Some, refl, ap, arith}
use Rattle.journal_rules.specs.Entries.{EachAfterThese}
use Rattle.desk_book.specs.declared.entry.Ask.{Ask}
use Rattle.desk_book.specs.declared.entry.DeskEntry.{DeskEntry}
use Rattle.desk_book.specs.declared.entry.DeskEntry.TheVariants.{Asked, Took, Ended}
use Rattle.desk_book.specs.declared.turn.Turn.TheVariants.{Waiting, Open, Over}
use Rattle.desk_book.specs.Asks.{new_ask}
use Rattle.desk_book.specs.Histories.{asks_of, asks_by, turn_of, EarlierOver, IsOver, MayTake, AskRule, DeskRule, IsDeskHistory, IsFirstToTake, IsOldestWaiting, NoneMayBeTaken, NoneWaits, EachIsPassedOver, IsUnended, IsFirstUnended, TakesTurns}

pub some_same : {X : Type 0} {x y : X} → Some x ≡ Some y → x ≡ y
some_same e = cc

-- Two graphs and two callers: caller 0 asks for two rounds of graph 0, caller 1 for one of graph 1, and caller 0 for
-- one of graph 0.
abbrev pub first : Ask
first = new_ask 0 0 0 2

abbrev pub second : Ask
second = new_ask 1 1 1 1

abbrev pub third : Ask
third = new_ask 2 0 0 1

abbrev pub asked : List DeskEntry
asked = Asked first ∷ Asked second ∷ Asked third ∷ []

abbrev pub one_open : List DeskEntry
one_open = asked ++ Took 0 ∷ []

abbrev pub two_open : List DeskEntry
two_open = one_open ++ Took 1 ∷ []

abbrev pub one_over : List DeskEntry
one_over = two_open ++ Ended 0 true ∷ []

abbrev pub turns : List DeskEntry
turns = one_over ++ Ended 1 true ∷ Took 2 ∷ Ended 2 false ∷ []

-- what comes after the first has ended, and after all have asked
abbrev after_first : List DeskEntry
after_first = Ended 1 true ∷ Took 2 ∷ Ended 2 false ∷ []

abbrev after_asks : List DeskEntry
after_asks = Took 0 ∷ Took 1 ∷ Ended 0 true ∷ after_first

-- how far each is
turns_while_two_are_open : (turn_of two_open 0 ≡ Open) × (turn_of two_open 1 ≡ Open) × (turn_of two_open 2 ≡ Waiting)
turns_while_two_are_open = (refl, refl, refl)

turns_at_the_end : (turn_of turns 0 ≡ Over true) × (turn_of turns 1 ≡ Over true) × (turn_of turns 2 ≡ Over false)
turns_at_the_end = (refl, refl, refl)

asks_at_the_end : (asks_of turns ≡ first ∷ second ∷ third ∷ []) × (asks_by 0 turns ≡ first ∷ third ∷ []) × (asks_by 1 turns ≡ second ∷ [])
asks_at_the_end = (refl, refl, refl)

-- whose turn it is
none_before_first : (history : List DeskEntry) (graph : ℕ) → EarlierOver (asks_of history) (turn_of history) graph 0
none_before_first history graph m older less at of = absurd (omega (arith, less))

pub first_may : MayTake asked 0
first_may = (refl, none_before_first asked 0)

-- an ask of another graph need not wait for it
second_before : EarlierOver (asks_of one_open) (turn_of one_open) 1 1
second_before zero older less at of = let e : 0 ≡ 1 = ap (λ (a : Ask). a.graph) (some_same at) ∙ of in absurd (omega (arith, e))
second_before (suc m) older less at of = absurd (omega (arith, less))

pub second_may : MayTake one_open 1
second_may = (refl, second_before)

-- an ask of the same graph has to: a second run of a graph begun before the first ended is none of a desk
third_may_not : ¬ MayTake two_open 2
third_may_not may = may.1 0 first (omega arith) refl refl

-- nor is one that is taken before an earlier ask of its graph
third_may_not_pass_first : ¬ MayTake asked 2
third_may_not_pass_first may = may.1 0 first (omega arith) refl refl

-- nor one that is taken twice
first_may_not_again : ¬ MayTake one_over 0
first_may_not_again may = let e : Over true ≡ Waiting = may.0 in cc

third_before : (history : List DeskEntry) → turn_of history 0 ≡ Over true → asks_of history ≡ first ∷ second ∷ third ∷ [] → EarlierOver (first ∷ second ∷ third ∷ []) (turn_of history) 0 2
third_before history over same zero older less at of = rw over tt
third_before history over same (suc zero) older less at of = let e : 1 ≡ 0 = ap (λ (a : Ask). a.graph) (some_same at) ∙ of in absurd (omega (arith, e))
third_before history over same (suc (suc m)) older less at of = absurd (omega (arith, less))

third_may : MayTake one_over 2
third_may = (refl, third_before one_over refl refl)

-- while it waits it is passed over, and it is the oldest that does
pub third_waits : IsOldestWaiting two_open 2
third_waits = ((omega arith, refl), others)
  where
    others : (m : ℕ) → m < 2 → turn_of two_open m ≡ Waiting → ⊥
    others zero less waits = let e : Open ≡ Waiting = waits in cc
    others (suc zero) less waits = let e : Open ≡ Waiting = waits in cc
    others (suc (suc m)) less waits = absurd (omega (arith, less))

pub third_is_passed_over : EachIsPassedOver two_open
third_is_passed_over zero ask at waits = let e : Open ≡ Waiting = waits in absurd (cc)
third_is_passed_over (suc zero) ask at waits = let e : Open ≡ Waiting = waits in absurd (cc)
third_is_passed_over (suc (suc zero)) ask at waits = record { open_ask = first; number = 0; asked = refl; of_graph = ap (λ (a : Ask). a.graph) (some_same at); is_open = refl }
third_is_passed_over (suc (suc (suc m))) ask at waits = absurd (cc)

-- an ask ends once, after it was taken
no_end_before_it_is_taken : ¬ DeskRule 2 2 asked (Ended 0 true)
no_end_before_it_is_taken is = let e : Waiting ≡ Open = is in cc

no_second_end : ¬ DeskRule 2 2 one_over (Ended 0 true)
no_second_end is = let e : Over true ≡ Open = is in cc

-- the whole is a history of a desk
and_then : (before rest : List DeskEntry) (entry : DeskEntry) → DeskRule 2 2 before entry → EachAfterThese (DeskRule 2 2) (before ++ entry ∷ []) rest → EachAfterThese (DeskRule 2 2) before (entry ∷ rest)
and_then before rest entry rule others = (rule, others)

turns_are_right : IsDeskHistory 2 2 turns
turns_are_right =
    and_then [] (Asked second ∷ Asked third ∷ after_asks) (Asked first) (record { number = refl; few = omega arith; caller = omega arith; graph = omega arith; times = omega arith })
    (and_then (Asked first ∷ []) (Asked third ∷ after_asks) (Asked second) (record { number = refl; few = omega arith; caller = omega arith; graph = omega arith; times = omega arith })
    (and_then (Asked first ∷ Asked second ∷ []) after_asks (Asked third) (record { number = refl; few = omega arith; caller = omega arith; graph = omega arith; times = omega arith })
    (and_then asked (Took 1 ∷ Ended 0 true ∷ after_first) (Took 0) first_may
    (and_then one_open (Ended 0 true ∷ after_first) (Took 1) second_may
    (and_then two_open after_first (Ended 0 true) refl
    (and_then one_over (Took 2 ∷ Ended 2 false ∷ []) (Ended 1 true) refl
    (and_then (one_over ++ Ended 1 true ∷ []) (Ended 2 false ∷ []) (Took 2) (refl, third_before (one_over ++ Ended 1 true ∷ []) refl refl)
    (and_then (one_over ++ Ended 1 true ∷ Took 2 ∷ []) [] (Ended 2 false) refl tt))))))))

-- asks that are refused: of a third graph, and for a thousand and one rounds
no_third_graph : ¬ AskRule 2 2 [] (new_ask 0 0 2 1)
no_third_graph rule = omega (arith, rule.graph)

no_thousand_and_one : ¬ AskRule 2 2 [] (new_ask 0 0 0 1001)
no_thousand_and_one rule = omega (arith, rule.times)

no_third_caller : ¬ AskRule 2 2 [] (new_ask 0 2 0 1)
no_third_caller rule = omega (arith, rule.caller)

no_other_number : ¬ AskRule 2 2 asked (new_ask 2 0 0 1)
no_other_number rule = let e : 2 ≡ 3 = rule.number in absurd (omega (arith, e))

-- which ask is taken first: the oldest that may be
pub first_is_first : IsFirstToTake asked 0
first_is_first = (first_may, λ m less may. absurd (omega (arith, less)))

second_is_first_while_one_is_open : IsFirstToTake one_open 1
second_is_first_while_one_is_open = (second_may, others)
  where
    others : (m : ℕ) → m < 1 → MayTake one_open m → ⊥
    others zero less may = let e : Open ≡ Waiting = may.0 in cc
    others (suc m) less may = absurd (omega (arith, less))

pub second_is_not_first : ¬ IsFirstToTake asked 1
second_is_not_first is = is.1 0 (omega arith) first_may

third_is_not_first : ¬ IsFirstToTake two_open 2
third_is_not_first is = third_may_not is.0

-- no ask may be taken while each graph is busy
none_may : NoneMayBeTaken two_open
none_may zero may = let e : Open ≡ Waiting = may.0 in cc
none_may (suc zero) may = let e : Open ≡ Waiting = may.0 in cc
none_may (suc (suc zero)) may = third_may_not may
none_may (suc (suc (suc n))) may = may.1

one_still_may : ¬ NoneMayBeTaken one_over
one_still_may none = none 2 third_may

-- none waits at the end, and one does before
pub none_waits : NoneWaits turns
none_waits zero waits = let e : Over true ≡ Waiting = waits.1 in cc
none_waits (suc zero) waits = let e : Over true ≡ Waiting = waits.1 in cc
none_waits (suc (suc zero)) waits = let e : Over false ≡ Waiting = waits.1 in cc
none_waits (suc (suc (suc n))) waits = absurd (omega (arith, waits.0))

pub one_waits : ¬ NoneWaits two_open
one_waits none = none 2 third_waits.0

-- before any is taken no graph is busy
pub none_is_passed_over : ¬ EachIsPassedOver asked
none_is_passed_over each = let e : Waiting ≡ Open = (each 0 first refl refl).is_open in cc

-- the oldest that waits, and one that is not
second_is_not_the_oldest : ¬ IsOldestWaiting asked 1
second_is_not_the_oldest is = is.1 0 (omega arith) refl

open_ask_does_not_wait : ¬ IsOldestWaiting two_open 0
open_ask_does_not_wait is = let e : Open ≡ Waiting = is.0.1 in cc

none_with_this_number_waits : ¬ IsOldestWaiting two_open 3
none_with_this_number_waits is = absurd (omega (arith, is.0.0))

-- asks that have not ended, and the first of them
second_and_third_have_not_ended : IsUnended one_over 1 × IsUnended one_over 2 × ¬ IsUnended one_over 0 × ¬ IsUnended one_over 3
second_and_third_have_not_ended = ((omega arith, λ over. over), (omega arith, λ over. over), (λ is. is.1 tt), (λ is. absurd (omega (arith, is.0))))

pub second_is_the_first_unended : IsFirstUnended one_over 1
second_is_the_first_unended = ((omega arith, λ over. over), earlier)
  where
    earlier : (m : ℕ) → m < 1 → IsOver (turn_of one_over m)
    earlier zero less = tt
    earlier (suc m) less = absurd (omega (arith, less))

pub third_is_not_the_first_unended : ¬ IsFirstUnended one_over 2
third_is_not_the_first_unended is = is.1 1 (omega arith)

ended_ask_is_not_unended : ¬ IsFirstUnended one_over 0 × ¬ IsFirstUnended turns 2
ended_ask_is_not_unended = ((λ is. is.0.1 tt), (λ is. is.0.1 tt))

-- runs of one graph take turns, unless an ask was taken before an earlier one ended
they_take_turns : TakesTurns turns
they_take_turns zero n older ask less at_older at same taken = tt
they_take_turns (suc zero) n older ask less at_older at same taken = tt
they_take_turns (suc (suc zero)) n older ask less at_older at same taken = tt
they_take_turns (suc (suc (suc m))) n older ask less at_older at same taken = absurd (cc)

two_at_once : ¬ TakesTurns (asked ++ Took 0 ∷ Took 2 ∷ [])
two_at_once take = take 0 2 first third (omega arith) refl refl refl (λ waits. let e : Open ≡ Waiting = waits in cc)
