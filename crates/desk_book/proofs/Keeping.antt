-- What holds of the books of a desk goes on to hold when an ask is added, when one is taken, and when one ends.
use Rattle.std.proofs.Common.{◌≡◌, ◌≢◌, ◌⊎◌, inl, inr, ℕ, ◌+◌, ◌*◌, ◌<◌, ◌≤◌, Bool, true, false, cond, List, [], ◌∷◌, ◌++◌, length, length-set, set, Option, Some, None, refl, sym, ap, ◌∙◌, subst, arith}
use Rattle.std.specs.Prelude.{slice_get, sum_by, IfSome, IsSomeAnd}
use Rattle.std.proofs.lemmas.Bool.{cases_eq, cases_lt}
use Rattle.std.proofs.lemmas.List.{length_push}
use Rattle.std.proofs.lemmas.List.Sums.{sum_by_push}
use Rattle.journal_rules.proofs.Snoc.{EachAfter-push}
use Rattle.desk_book.specs.declared.entry.Ask.{Ask}
use Rattle.desk_book.specs.declared.entry.DeskEntry.{DeskEntry}
use Rattle.desk_book.specs.declared.entry.DeskEntry.TheVariants.{Asked, Took, Ended}
use Rattle.desk_book.specs.declared.turn.Turn.{Turn}
use Rattle.desk_book.specs.declared.turn.Turn.TheVariants.{Waiting, Open, Over}
use Rattle.desk_book.specs.Histories.{asks_of, turn_of, IsOver, EarlierOver, MayTakeAt, MayTake, AskRule, DeskRule, IsFirstToTake, NoneMayBeTaken}
use Rattle.desk_book.specs.inside.Looks.{turn_at, IsLastOf, IsFirstFrom, IsLeast, IsIdle}
use Rattle.atomic_table.specs.Seated.{TableId}
use Rattle.desk_book.specs.declared.outstanding.Outstanding.{Outstanding}
use Rattle.desk_book.specs.declared.outstanding.Outstanding.TheVariants.{Running}
use Rattle.desk_book.specs.Books.{BookHistory, book_history, caller_of, NothingOut}
use Rattle.desk_book.specs.Taking.{open_ask}
use Rattle.desk_book.specs.Changes.{TakesFirst, EndsTaken}
use Rattle.desk_book.specs.inside.Keeps.{InTurn, IsAskAt, KeepsTurns, KeepsTickets, entries_left}
use Rattle.desk_book.proofs.Issuing.{asked_tickets, took_tickets, ended_tickets}
use Rattle.desk_book.proofs.Lists.{get_push_cases, get_in_range}
use Rattle.desk_book.proofs.Telling.{asks_asked, asks_took, asks_ended, turn_push, turn_took_here, turn_took_other, turn_ended_here, turn_ended_other, turn_at_set, turn_at_other, turn_at_push, turn_past, left_set}
use Rattle.desk_book.proofs.Turning.{not_both, open_not_waiting, over_not_waiting, may_of, taken_in_turn, ended_in_turn, idle_in_turn, busy_in_turn}

some_out : {X : Type 0} (o : Option X) (P : X → Type 0) → IsSomeAnd o P → (x : X) × (o ≡ Some x) × P x
some_out None P h = absurd h
some_out (Some x) P h = (x, refl, h)

-- what may be taken, by another way to tell the turns
pub may_as : (asks : List Ask) (t t' : ℕ → Turn) (n : ℕ) → ((m : ℕ) → t m ≡ t' m) → MayTakeAt asks t n → MayTakeAt asks t' n
may_as asks t t' n same may =
    let at = some_out (slice_get asks n) (λ (ask : Ask). EarlierOver asks t ask.graph n) may.1 in
    may_of asks t' n at.0 at.1 (sym (same n) ∙ may.0) (λ m older less at_m of. subst IsOver (same m) (at.2 m older less at_m of))

module _ (graphs callers room : ℕ) (history : List DeskEntry) (asks : List Ask) (turns : List Turn) (next : List (Option ℕ)) (oldest : ℕ) (h : KeepsTurns graphs callers room history asks turns next oldest) where
  pub may_there : (n : ℕ) → MayTakeAt asks (turn_at turns) n → MayTake history n
  may_there n may = subst (λ xs. MayTakeAt xs (turn_of history) n) (sym h.same_asks) (may_as asks (turn_at turns) (turn_of history) n h.same_turns may)

  pub may_here : (n : ℕ) → MayTake history n → MayTakeAt asks (turn_at turns) n
  may_here n may = may_as asks (turn_of history) (turn_at turns) n (λ m. sym (h.same_turns m)) (subst (λ xs. MayTakeAt xs (turn_of history) n) h.same_asks may)

  -- an ask that is to come has not been taken
  pub fresh_waits : (n : ℕ) → n ≡ length (asks_of history) → turn_of history n ≡ Waiting
  fresh_waits n is = sym (h.same_turns n) ∙ turn_past turns n (omega (arith, is, ap length h.same_asks, h.turn_count))

  -- the least number that is noted is that of the first ask that may be taken
  pub least_first : (n : ℕ) → IsLeast next (Some n) → MayTakeAt asks (turn_at turns) n × IsFirstToTake history n
  least_first n least =
      let may = (h.in_turn.is_next least.0.0 n least.0.1).0 in
      (may, (may_there n may, λ m less may'. earlier m less (may_here m may')))
    where
      earlier : (m : ℕ) → m < n → MayTakeAt asks (turn_at turns) m → ⊥
      earlier m less may =
          let at = some_out (slice_get asks m) (λ (ask : Ask). EarlierOver asks (turn_at turns) ask.graph m) may.1 in
          let above : n ≤ m = least.1 at.0.graph m (h.in_turn.has_next m at.0 at.1 may) in
          absurd (omega (arith, less, above))

  pub least_in : (n : ℕ) → IsLeast next (Some n) → n < length asks
  least_in n least = let of = (h.in_turn.is_next least.0.0 n least.0.1).1 in get_in_range asks n of.0 of.1

  pub none_first : IsLeast next None → NoneMayBeTaken history
  none_first none m may =
      let may' = may_here m may in
      let at = some_out (slice_get asks m) (λ (ask : Ask). EarlierOver asks (turn_at turns) ask.graph m) may'.1 in
      none at.0.graph m (h.in_turn.has_next m at.0 at.1 may')

  ask_count : length (asks_of history) ≡ length asks
  ask_count = ap length h.same_asks

  -- An ask is added.
  module _ (ask : Ask) (rule : AskRule graphs callers history ask) where
    number_is : ask.number ≡ length asks
    number_is = rule.number ∙ ask_count

    idle_earlier : IsIdle asks turns ask.graph true → EarlierOver asks (turn_at turns) ask.graph (length asks)
    idle_earlier idle m older less at_m of = by_last idle.0 idle.1 idle.2
      where
        by_last : (last : Option ℕ) → IsLastOf asks ask.graph last → IfSome last (λ n. IsOver (turn_at turns n)) → IsOver (turn_at turns m)
        by_last None none over = absurd (none m (omega arith) less (older, at_m, of))
        by_last (Some k) last over = by_order (cases_lt m k)
          where
            by_order : (m < k) ⊎ (k ≤ m) → IsOver (turn_at turns m)
            by_order (inl before) = h.in_turn.in_order m k older last.0.0 before at_m last.0.1 (of ∙ sym last.0.2) (λ waits. not_both (turn_at turns k) waits over)
            by_order (inr past) = by_case (cases_eq m k)
              where
                by_case : (m ≡ k) ⊎ (m ≢ k) → IsOver (turn_at turns m)
                by_case (inl e) = subst (λ j. IsOver (turn_at turns j)) (sym e) over
                by_case (inr other) = absurd (last.1 m (omega (arith, past, other)) less (older, at_m, of))

    asked_in_turn : (idle : Bool) → IsIdle asks turns ask.graph idle → InTurn (asks ++ ask ∷ []) (turn_at (turns ++ Waiting ∷ [])) (cond idle (set next ask.graph (Some ask.number)) next)
    asked_in_turn true idle =
        subst (λ k. InTurn (asks ++ ask ∷ []) (turn_at (turns ++ Waiting ∷ [])) (set next ask.graph (Some k))) (sym number_is)
        (idle_in_turn asks (turn_at turns) (turn_at (turns ++ Waiting ∷ [])) next ask h.in_turn (turn_at_push turns) (turn_past turns (length asks) (omega (arith, h.turn_count))) (idle_earlier idle) (omega (arith, rule.graph, h.next_count)))
    asked_in_turn false idle = busy_in_turn asks (turn_at turns) (turn_at (turns ++ Waiting ∷ [])) next ask h.in_turn (turn_at_push turns) (turn_past turns (length asks) (omega (arith, h.turn_count))) idle.0 idle.1 idle.2

    next_kept : (idle : Bool) → length (cond idle (set next ask.graph (Some ask.number)) next) ≡ graphs
    next_kept true = length-set next ask.graph (Some ask.number) ∙ h.next_count
    next_kept false = h.next_count

    each_asked : (n : ℕ) (a : Ask) → slice_get (asks ++ ask ∷ []) n ≡ Some a → IsAskAt graphs callers n a
    each_asked n a at = by_place (get_push_cases asks ask a n at)
      where
        by_place : (slice_get asks n ≡ Some a) ⊎ ((n ≡ length asks) × (ask ≡ a)) → IsAskAt graphs callers n a
        by_place (inl old) = h.each n a old
        by_place (inr last) = subst (IsAskAt graphs callers n) last.1 (record { number = number_is ∙ sym last.0; graph = rule.graph; caller = rule.caller })

    pub asked_keeps : (idle : Bool) (room' : ℕ) → IsIdle asks turns ask.graph idle → 3 * length asks + 3 ≤ room' →
        KeepsTurns graphs callers room' (history ++ Asked ask ∷ []) (asks ++ ask ∷ []) (turns ++ Waiting ∷ []) (cond idle (set next ask.graph (Some ask.number)) next) oldest
    asked_keeps idle room' is_idle fits =
        let more : length (asks ++ ask ∷ []) ≡ length asks + 1 = length_push asks ask in record {
          is_history = EachAfter-push (DeskRule graphs callers) history (Asked ask) h.is_history rule;
          same_asks = asks_asked history ask ∙ ap (λ xs. xs ++ ask ∷ []) h.same_asks;
          few = omega (arith, more, number_is, rule.few);
          turn_count = length_push turns Waiting ∙ ap (λ n. n + 1) h.turn_count ∙ sym more;
          same_turns = λ n. turn_at_push turns n ∙ h.same_turns n ∙ sym (turn_push history (Asked ask) n);
          next_count = next_kept idle;
          in_turn = asked_in_turn idle is_idle;
          each = each_asked;
          skipped = λ n less waits. h.skipped n less (sym (turn_at_push turns n) ∙ waits);
          oldest_in = omega (arith, more, h.oldest_in);
          entries =
              let a : length (history ++ Asked ask ∷ []) ≡ length history + 1 = length_push history (Asked ask) in
              let b : sum_by entries_left (turns ++ Waiting ∷ []) ≡ sum_by entries_left turns + 2 = sum_by_push entries_left turns Waiting in
              omega (arith, a, b, more, h.entries);
          has_room = omega (arith, more, fits);
        }

  -- An ask is taken.
  module _ (n : ℕ) (ask : Ask) (at : slice_get asks n ≡ Some ask) (may : MayTakeAt asks (turn_at turns) n) where
    in_turns : n < length turns
    in_turns = let below = get_in_range asks n ask at in omega (arith, below, h.turn_count)

    -- there is room for it
    pub took_room : length history < room
    took_room =
        let change = left_set turns n Open in_turns in
        let left : entries_left (turn_at turns n) ≡ 2 = ap entries_left may.0 in
        omega (arith, change, left, h.entries, h.has_room)

    pub took_keeps : KeepsTurns graphs callers room (history ++ Took n ∷ []) asks (set turns n Open) (set next ask.graph None) oldest
    took_keeps = record {
      is_history = EachAfter-push (DeskRule graphs callers) history (Took n) h.is_history (may_there n may);
      same_asks = asks_took history n ∙ h.same_asks;
      few = h.few;
      turn_count = length-set turns n Open ∙ h.turn_count;
      same_turns = same;
      next_count = length-set next ask.graph None ∙ h.next_count;
      in_turn = taken_in_turn asks (turn_at turns) (turn_at (set turns n Open)) next n ask h.in_turn at may (turn_at_set turns n Open in_turns) (λ m other. turn_at_other turns n m Open other);
      each = h.each;
      skipped = λ m less waits. h.skipped m less (waited m waits);
      oldest_in = h.oldest_in;
      entries =
          let a : length (history ++ Took n ∷ []) ≡ length history + 1 = length_push history (Took n) in
          let change = left_set turns n Open in_turns in
          let left : entries_left (turn_at turns n) ≡ 2 = ap entries_left may.0 in
          omega (arith, a, change, left, h.entries);
      has_room = h.has_room;
    }
      where
        same : (m : ℕ) → turn_at (set turns n Open) m ≡ turn_of (history ++ Took n ∷ []) m
        same m = by_case (cases_eq m n)
          where
            by_case : (m ≡ n) ⊎ (m ≢ n) → turn_at (set turns n Open) m ≡ turn_of (history ++ Took n ∷ []) m
            by_case (inl e) = subst (λ k. turn_at (set turns n Open) k ≡ turn_of (history ++ Took n ∷ []) k) (sym e) (turn_at_set turns n Open in_turns ∙ sym (turn_took_here history n))
            by_case (inr other) = turn_at_other turns n m Open other ∙ h.same_turns m ∙ sym (turn_took_other history n m other)

        waited : (m : ℕ) → turn_at (set turns n Open) m ≡ Waiting → turn_at turns m ≡ Waiting
        waited m waits = by_case (cases_eq m n)
          where
            by_case : (m ≡ n) ⊎ (m ≢ n) → turn_at turns m ≡ Waiting
            by_case (inl e) = absurd (open_not_waiting (ap (turn_at (set turns n Open)) e ∙ turn_at_set turns n Open in_turns) waits)
            by_case (inr other) = sym (turn_at_other turns n m Open other) ∙ waits

  -- An ask ends.
  module _ (n : ℕ) (ask : Ask) (whole : Bool) (following : Option ℕ) (at : slice_get asks n ≡ Some ask) (was_open : turn_at turns n ≡ Open) where
    ended_in_turns : n < length turns
    ended_in_turns = let below = get_in_range asks n ask at in omega (arith, below, h.turn_count)

    pub ended_room : length history < room
    ended_room =
        let change = left_set turns n (Over whole) ended_in_turns in
        let left : entries_left (turn_at turns n) ≡ 1 = ap entries_left was_open in
        omega (arith, change, left, h.entries, h.has_room)

    pub ended_keeps : IsFirstFrom asks ask.graph (n + 1) following → KeepsTurns graphs callers room (history ++ Ended n whole ∷ []) asks (set turns n (Over whole)) (set next ask.graph following) oldest
    ended_keeps found = record {
      is_history = EachAfter-push (DeskRule graphs callers) history (Ended n whole) h.is_history (sym (h.same_turns n) ∙ was_open);
      same_asks = asks_ended history n whole ∙ h.same_asks;
      few = h.few;
      turn_count = length-set turns n (Over whole) ∙ h.turn_count;
      same_turns = same;
      next_count = length-set next ask.graph following ∙ h.next_count;
      in_turn = ended_in_turn asks (turn_at turns) (turn_at (set turns n (Over whole))) next n ask whole following h.in_turn at was_open (turn_at_set turns n (Over whole) ended_in_turns) (λ m other. turn_at_other turns n m (Over whole) other)
          (let is = h.each n ask at in omega (arith, is.graph, h.next_count)) found;
      each = h.each;
      skipped = λ m less waits. h.skipped m less (waited m waits);
      oldest_in = h.oldest_in;
      entries =
          let a : length (history ++ Ended n whole ∷ []) ≡ length history + 1 = length_push history (Ended n whole) in
          let change = left_set turns n (Over whole) ended_in_turns in
          let left : entries_left (turn_at turns n) ≡ 1 = ap entries_left was_open in
          omega (arith, a, change, left, h.entries);
      has_room = h.has_room;
    }
      where
        same : (m : ℕ) → turn_at (set turns n (Over whole)) m ≡ turn_of (history ++ Ended n whole ∷ []) m
        same m = by_case (cases_eq m n)
          where
            by_case : (m ≡ n) ⊎ (m ≢ n) → turn_at (set turns n (Over whole)) m ≡ turn_of (history ++ Ended n whole ∷ []) m
            by_case (inl e) = subst (λ k. turn_at (set turns n (Over whole)) k ≡ turn_of (history ++ Ended n whole ∷ []) k) (sym e) (turn_at_set turns n (Over whole) ended_in_turns ∙ sym (turn_ended_here history n whole))
            by_case (inr other) = turn_at_other turns n m (Over whole) other ∙ h.same_turns m ∙ sym (turn_ended_other history n m whole other)

        waited : (m : ℕ) → turn_at (set turns n (Over whole)) m ≡ Waiting → turn_at turns m ≡ Waiting
        waited m waits = by_case (cases_eq m n)
          where
            by_case : (m ≡ n) ⊎ (m ≢ n) → turn_at turns m ≡ Waiting
            by_case (inl e) = absurd (over_not_waiting (ap (turn_at (set turns n (Over whole))) e ∙ turn_at_set turns n (Over whole) ended_in_turns) waits)
            by_case (inr other) = sym (turn_at_other turns n m (Over whole) other) ∙ waits

-- The same with the tickets, by the parts of the books.
pub asked : (graphs callers room room' : ℕ) (history history' : List DeskEntry) (asks asks' looked : List Ask) (turns turns' looked_turns : List Turn) (next next' : List (Option ℕ)) (oldest : ℕ) (items : List (Option Outstanding)) (ask : Ask) (idle : Bool) →
    KeepsTurns graphs callers room history asks turns next oldest × KeepsTickets history items →
    AskRule graphs callers history ask → NothingOut (caller_of ask.caller) items → looked ≡ asks → looked_turns ≡ turns → IsIdle looked looked_turns ask.graph idle → 3 * length asks + 3 ≤ room' →
    history' ≡ history ++ Asked ask ∷ [] → asks' ≡ asks ++ ask ∷ [] → turns' ≡ turns ++ Waiting ∷ [] → next' ≡ cond idle (set next ask.graph (Some ask.number)) next →
    KeepsTurns graphs callers room' history' asks' turns' next' oldest × KeepsTickets history' items
asked graphs callers room room' history history' asks asks' looked turns turns' looked_turns next next' oldest items ask idle h rule none same_looked same_looked_turns is_idle fits same_history same_asks same_turns same_next =
    let idle_here = subst (λ ts. IsIdle asks ts ask.graph idle) same_looked_turns (subst (λ xs. IsIdle xs looked_turns ask.graph idle) same_looked is_idle) in
    rw (same_history, same_asks, same_turns, same_next)
    (asked_keeps graphs callers room history asks turns next oldest h.0 ask rule idle room' idle_here fits, asked_tickets history items ask h.1 none)

pub took : (graphs callers room room' : ℕ) (history history' : List DeskEntry) (asks : List Ask) (turns turns' : List Turn) (next next' : List (Option ℕ)) (oldest : ℕ) (items items' : List (Option Outstanding)) (n : ℕ) (ask : Ask) →
    KeepsTurns graphs callers room history asks turns next oldest × KeepsTickets history items → slice_get asks n ≡ Some ask → IsLeast next (Some n) →
    room' ≡ room → history' ≡ history ++ Took n ∷ [] → turns' ≡ set turns n Open → next' ≡ set next ask.graph None → items' ≡ items ++ Some (Running ask) ∷ [] →
    KeepsTurns graphs callers room' history' asks turns' next' oldest × KeepsTickets history' items'
took graphs callers room room' history history' asks turns turns' next next' oldest items items' n ask h at least same_room same_history same_turns same_next same_items =
    let may = (least_first graphs callers room history asks turns next oldest h.0 n least).0 in
    rw (same_room, same_history, same_turns, same_next, same_items) (
      took_keeps graphs callers room history asks turns next oldest h.0 n ask at may,
      took_tickets history items n ask h.1 (may_there graphs callers room history asks turns next oldest h.0 n may).0 (subst (λ xs. slice_get xs n ≡ Some ask) (sym h.0.same_asks) at) (h.0.each n ask at).number,
    )

pub takes : (old : BookHistory) (register register' r : TableId) (graphs callers : ℕ) (history history' : List DeskEntry) (items items' : List (Option Outstanding)) (n : ℕ) (ask : Ask) →
    book_history register graphs callers history items ≡ old → ask.number ≡ n → ask.graph < graphs → IsFirstToTake history n → slice_get (asks_of history) n ≡ Some ask → register' ≡ register → r ≡ register → history' ≡ history ++ Took n ∷ [] →
    TakesFirst old (book_history register' graphs callers history' items') (open_ask r ask)
takes old register register' r graphs callers history history' items items' n ask view number in_range first at same_register same_r same_history =
    subst (λ b. TakesFirst b (book_history register' graphs callers history' items') (open_ask r ask)) view record {
      first = subst (IsFirstToTake history) (sym number) first;
      ask = subst (λ k. slice_get (asks_of history) k ≡ Some ask) (sym number) at;
      graph = in_range;
      register = same_r;
      book = ap (λ t. book_history t graphs callers history' items') same_register ∙ ap (λ hs. book_history register graphs callers hs items') (same_history ∙ ap (λ k. history ++ Took k ∷ []) (sym number));
    }

-- the ticket of an ask that was taken shows that it has not ended
pub open_here : (graphs callers room : ℕ) (history : List DeskEntry) (asks : List Ask) (turns : List Turn) (next : List (Option ℕ)) (oldest : ℕ) (items : List (Option Outstanding)) (k : ℕ) (item : Outstanding) (ask : Ask) →
    KeepsTurns graphs callers room history asks turns next oldest × KeepsTickets history items → slice_get items k ≡ Some (Some item) → item ≡ Running ask →
    (slice_get (asks_of history) ask.number ≡ Some ask) × (turn_of history ask.number ≡ Open) × (slice_get asks ask.number ≡ Some ask) × (turn_at turns ask.number ≡ Open)
open_here graphs callers room history asks turns next oldest items k item ask h at is =
    let fits = h.1.fits k (Running ask) (at ∙ ap (λ x. Some (Some x)) is) in
    (fits.0, fits.1, subst (λ xs. slice_get xs ask.number ≡ Some ask) h.0.same_asks fits.0, h.0.same_turns ask.number ∙ fits.1)

pub ended : (graphs callers room room' : ℕ) (history history' : List DeskEntry) (asks looked : List Ask) (turns turns' : List Turn) (next next' : List (Option ℕ)) (oldest : ℕ) (items items' : List (Option Outstanding)) (k : ℕ) (item : Outstanding) (ask : Ask) (whole : Bool) (following : Option ℕ) →
    KeepsTurns graphs callers room history asks turns next oldest × KeepsTickets history items → slice_get items k ≡ Some (Some item) → item ≡ Running ask → looked ≡ asks → IsFirstFrom looked ask.graph (ask.number + 1) following →
    room' ≡ room → history' ≡ history ++ Ended ask.number whole ∷ [] → turns' ≡ set turns ask.number (Over whole) → next' ≡ set next ask.graph following → items' ≡ set items k None →
    KeepsTurns graphs callers room' history' asks turns' next' oldest × KeepsTickets history' items'
ended graphs callers room room' history history' asks looked turns turns' next next' oldest items items' k item ask whole following h at is same_looked found same_room same_history same_turns same_next same_items =
    let here = open_here graphs callers room history asks turns next oldest items k item ask h at is in
    rw (same_room, same_history, same_turns, same_next, same_items) (
      ended_keeps graphs callers room history asks turns next oldest h.0 ask.number ask whole following here.2 here.3 (subst (λ xs. IsFirstFrom xs ask.graph (ask.number + 1) following) same_looked found),
      ended_tickets history items k ask whole h.1 (at ∙ ap (λ x. Some (Some x)) is),
    )

pub ends : (old : BookHistory) (register register' r : TableId) (graphs callers : ℕ) (history history' : List DeskEntry) (items items' : List (Option Outstanding)) (ask : Ask) (whole : Bool) →
    book_history register graphs callers history items ≡ old → slice_get (asks_of history) ask.number ≡ Some ask → turn_of history ask.number ≡ Open → register' ≡ register → history' ≡ history ++ Ended ask.number whole ∷ [] →
    EndsTaken old (open_ask r ask) whole (book_history register' graphs callers history' items')
ends old register register' r graphs callers history history' items items' ask whole view at was_open same_register same_history =
    subst (λ b. EndsTaken b (open_ask r ask) whole (book_history register' graphs callers history' items')) view record {
      was_open = was_open;
      ask = at;
      book = ap (λ t. book_history t graphs callers history' items') same_register ∙ ap (λ hs. book_history register graphs callers hs items') same_history;
    }
