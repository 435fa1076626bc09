-- In right histories the asks of one graph take turns.
use Rattle.std.proofs.Common.{◌≡◌, ◌≢◌, ◌⊎◌, inl, inr, ℕ, ◌+◌, ◌≤◌, Bool, List, [], ◌∷◌, ◌++◌, length, Some, None, refl, sym, ap, ◌∙◌, subst, arith}
use Rattle.std.specs.Prelude.{slice_get, IsSomeAnd}
use Rattle.std.proofs.lemmas.Bool.{cases_eq}
use Rattle.std.proofs.lemmas.List.{append-nil, append_assoc, length_push}
use Rattle.journal_rules.specs.Entries.{EachAfterThese}
use Rattle.desk_book.specs.declared.entry.Ask.{Ask}
use Rattle.desk_book.specs.declared.entry.DeskEntry.{DeskEntry}
use Rattle.desk_book.specs.declared.entry.DeskEntry.TheVariants.{Asked, Took, Ended}
use Rattle.desk_book.specs.declared.turn.Turn.TheVariants.{Waiting, Open}
use Rattle.desk_book.specs.Histories.{asks_of, turn_of, IsOver, EarlierOver, MayTake, DeskRule, IsDeskHistory, TakesTurns}
use Rattle.desk_book.proofs.Lists.{get_push_cases, get_in_range, some_at}
use Rattle.desk_book.proofs.Telling.{asks_asked, asks_took, asks_ended, turn_push, turn_took_other, turn_ended_other}
use Rattle.desk_book.proofs.Turning.{not_both, open_not_over, open_not_waiting}

-- Asks take turns, and those that are to come have not been taken.
record Turns (history : List DeskEntry) : Type 0 where
  in_order : TakesTurns history
  fresh : (n : ℕ) → length (asks_of history) ≤ n → turn_of history n ≡ Waiting

no_turns : Turns []
no_turns = record { in_order = λ m n older ask less at_m at_n same busy. absurd (cc); fresh = λ n past. refl }

-- an ask is added
asked : (before : List DeskEntry) (ask : Ask) → Turns before → Turns (before ++ Asked ask ∷ [])
asked before ask h = record { in_order = order; fresh = λ n past. turn_push before (Asked ask) n ∙ h.fresh n (omega (arith, past, more)) }
  where
    more : length (asks_of (before ++ Asked ask ∷ [])) ≡ length (asks_of before) + 1
    more = ap length (asks_asked before ask) ∙ length_push (asks_of before) ask

    order : TakesTurns (before ++ Asked ask ∷ [])
    order m n older a less at_m at_n same busy = by_places
        (get_push_cases (asks_of before) ask older m (subst (λ xs. slice_get xs m ≡ Some older) (asks_asked before ask) at_m))
        (get_push_cases (asks_of before) ask a n (subst (λ xs. slice_get xs n ≡ Some a) (asks_asked before ask) at_n))
      where
        by_places : (slice_get (asks_of before) m ≡ Some older) ⊎ ((m ≡ length (asks_of before)) × (ask ≡ older)) → (slice_get (asks_of before) n ≡ Some a) ⊎ ((n ≡ length (asks_of before)) × (ask ≡ a)) → IsOver (turn_of (before ++ Asked ask ∷ []) m)
        by_places p (inr last) = absurd (busy (turn_push before (Asked ask) n ∙ h.fresh n (omega (arith, last.0))))
        by_places (inl old) (inl now) = subst IsOver (sym (turn_push before (Asked ask) m)) (h.in_order m n older a less old now same (λ waits. busy (turn_push before (Asked ask) n ∙ waits)))
        by_places (inr last) (inl now) = let below = get_in_range (asks_of before) n a now in absurd (omega (arith, less, last.0, below))

-- an ask is taken, whose turn has come
took : (before : List DeskEntry) (k : ℕ) → Turns before → MayTake before k → Turns (before ++ Took k ∷ [])
took before k h may = record { in_order = order; fresh = fresh }
  where
    still_over : (m : ℕ) → IsOver (turn_of before m) → IsOver (turn_of (before ++ Took k ∷ []) m)
    still_over m over = subst IsOver (sym (turn_took_other before k m (λ e. not_both (turn_of before m) (ap (turn_of before) e ∙ may.0) over))) over

    order : TakesTurns (before ++ Took k ∷ [])
    order m n older a less at_m at_n same busy = by_case (cases_eq n k)
      where
        old_m : slice_get (asks_of before) m ≡ Some older
        old_m = subst (λ xs. slice_get xs m ≡ Some older) (asks_took before k) at_m

        old_n : slice_get (asks_of before) n ≡ Some a
        old_n = subst (λ xs. slice_get xs n ≡ Some a) (asks_took before k) at_n

        by_case : (n ≡ k) ⊎ (n ≢ k) → IsOver (turn_of (before ++ Took k ∷ []) m)
        by_case (inl e) =
            still_over m (some_at (λ (x : Ask). EarlierOver (asks_of before) (turn_of before) x.graph k) (slice_get (asks_of before) k) a (ap (slice_get (asks_of before)) (sym e) ∙ old_n) may.1 m older (omega (arith, less, e)) old_m same)
        by_case (inr other) = still_over m (h.in_order m n older a less old_m old_n same (λ waits. busy (turn_took_other before k n other ∙ waits)))

    fresh : (n : ℕ) → length (asks_of (before ++ Took k ∷ [])) ≤ n → turn_of (before ++ Took k ∷ []) n ≡ Waiting
    fresh n past = turn_took_other before k n apart ∙ h.fresh n (omega (arith, past, ap length (asks_took before k)))
      where
        apart : n ≢ k
        apart e = in_range (slice_get (asks_of before) k) refl may.1
          where
            in_range : (o : _) → slice_get (asks_of before) k ≡ o → IsSomeAnd o (λ (x : Ask). EarlierOver (asks_of before) (turn_of before) x.graph k) → ⊥
            in_range None is there = there
            in_range (Some x) is there = let below = get_in_range (asks_of before) k x is in omega (arith, below, past, ap length (asks_took before k), e)

-- an ask ends, which was taken
ended : (before : List DeskEntry) (k : ℕ) (whole : Bool) → Turns before → turn_of before k ≡ Open → Turns (before ++ Ended k whole ∷ [])
ended before k whole h was_open = record { in_order = order; fresh = fresh }
  where
    still_over : (m : ℕ) → IsOver (turn_of before m) → IsOver (turn_of (before ++ Ended k whole ∷ []) m)
    still_over m over = subst IsOver (sym (turn_ended_other before k m whole (λ e. open_not_over (turn_of before m) (ap (turn_of before) e ∙ was_open) over))) over

    order : TakesTurns (before ++ Ended k whole ∷ [])
    order m n older a less at_m at_n same busy = still_over m (h.in_order m n older a less old_m old_n same was_busy)
      where
        old_m : slice_get (asks_of before) m ≡ Some older
        old_m = subst (λ xs. slice_get xs m ≡ Some older) (asks_ended before k whole) at_m

        old_n : slice_get (asks_of before) n ≡ Some a
        old_n = subst (λ xs. slice_get xs n ≡ Some a) (asks_ended before k whole) at_n

        was_busy : turn_of before n ≡ Waiting → ⊥
        was_busy waits = by_case (cases_eq n k)
          where
            by_case : (n ≡ k) ⊎ (n ≢ k) → ⊥
            by_case (inl e) = open_not_waiting was_open (ap (turn_of before) (sym e) ∙ waits)
            by_case (inr other) = busy (turn_ended_other before k n whole other ∙ waits)

    fresh : (n : ℕ) → length (asks_of (before ++ Ended k whole ∷ [])) ≤ n → turn_of (before ++ Ended k whole ∷ []) n ≡ Waiting
    fresh n past = turn_ended_other before k n whole (λ e. open_not_waiting was_open (ap (turn_of before) (sym e) ∙ waited)) ∙ waited
      where
        waited : turn_of before n ≡ Waiting
        waited = h.fresh n (omega (arith, past, ap length (asks_ended before k whole)))

more_turns : (graphs callers : ℕ) (before : List DeskEntry) (entry : DeskEntry) → Turns before → DeskRule graphs callers before entry → Turns (before ++ entry ∷ [])
more_turns graphs callers before (Asked ask) h rule = asked before ask h
more_turns graphs callers before (Took k) h rule = took before k h rule
more_turns graphs callers before (Ended k whole) h rule = ended before k whole h rule

all_turns : (graphs callers : ℕ) (before rest : List DeskEntry) → Turns before → EachAfterThese (DeskRule graphs callers) before rest → Turns (before ++ rest)
all_turns graphs callers before [] h each = subst Turns (sym (append-nil before)) h
all_turns graphs callers before (entry ∷ rest) h each =
    subst Turns (append_assoc before (entry ∷ []) rest) (all_turns graphs callers (before ++ entry ∷ []) rest (more_turns graphs callers before entry h each.0) each.1)

pub takes_turns : (graphs callers : ℕ) (history : List DeskEntry) → IsDeskHistory graphs callers history → TakesTurns history
takes_turns graphs callers history right = (all_turns graphs callers [] history no_turns right).in_order
