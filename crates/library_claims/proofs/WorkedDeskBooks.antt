-- What asking, taking and ending change in the books of a desk, what a pass has seen then, and what is refused.
use Rattle.std.proofs.Common.{◌≡◌, ◌≢◌, ℕ, zero, suc, ◌+◌, ◌<◌, Bool, true, false, List, [], ◌∷◌, ◌++◌, Some, None, length, refl, sym, ap, ◌∙◌, subst, arith}
use Rattle.std.specs.Prelude.{slice_get}
use Rattle.std.proofs.lemmas.List.{length_push}
use Rattle.std.specs.declared.alloc.Global.{Global}
use Rattle.std.specs.declared.vec.Vec.{Vec}
use Rattle.std.specs.declared.snapshot.Snapshot.{Snapshot}
use Rattle.atomic_table.specs.Seated.{TableId}
use Rattle.tickets.specs.Books.{ticket_state}
use Rattle.desk_book.specs.declared.entry.Ask.{Ask}
use Rattle.desk_book.specs.declared.entry.DeskEntry.{DeskEntry}
use Rattle.desk_book.specs.declared.entry.DeskEntry.TheVariants.{Asked, Took, Ended}
use Rattle.desk_book.specs.declared.turn.Turn.TheVariants.{Waiting, Open, Over}
use Rattle.desk_book.specs.declared.outstanding.Outstanding.{Outstanding}
use Rattle.desk_book.specs.declared.outstanding.Outstanding.TheVariants.{Pass, Running}
use Rattle.desk_book.specs.declared.desk_error.DeskError.TheVariants.{NoSuchGraph, TooOften, Full, NoMemory}
use Rattle.desk_book.specs.declared.take_answer.TakeAnswer.TheVariants.{Taken, Busy, Empty}
use Rattle.desk_book.specs.Histories.{ask_limit, times_limit, asks_of, asks_by, turn_of}
use Rattle.desk_book.specs.Books.{BookHistory, book_history, with_entry, with_items, holder_of, caller_of, ask_of, NothingOut}
use Rattle.desk_book.specs.Taking.{open_ask, IsPassFor, entries_seen, HasSeen, IsFreshPass}
use Rattle.desk_book.specs.Changes.{TakesFirst, EndsTaken}
use Rattle.desk_book.specs.Passes.{PassState, pass_state, IsHeld, IsTicketOf, entries_in, number_in, seen, looked, kept, GoesOn, LooksAgain, HasLooked, AllLooked, HaveSeen, HaveTickets}
use Rattle.desk_book.specs.Asks.{new_ask, HasAsked, RefusesAsk, IsRefused, IsAsked}
use Rattle.desk_book.specs.Answers.{HasTaken, HasEnded, IsTakeAnswer}
use Rattle.library_claims.proofs.WorkedDesks.{first, second, third, asked, one_open, two_open, one_over, turns, some_same, first_is_first, second_is_not_first, third_waits, third_is_passed_over, none_is_passed_over, none_waits, one_waits}

limits : (ask_limit ≡ 10000) × (times_limit ≡ 1000)
limits = (refl, refl)

-- how many entries say that an ask was taken or ended
abbrev mark : DeskEntry → ℕ
mark (Asked ask) = 0
mark (Took n) = 1
mark (Ended n whole) = 1

abbrev marks : List DeskEntry → ℕ
marks [] = 0
marks (entry ∷ rest) = mark entry + marks rest

marks_push : (entries : List DeskEntry) (entry : DeskEntry) → mark entry ≡ 1 → marks (entries ++ entry ∷ []) ≡ marks entries + 1
marks_push [] entry is = omega (arith, is)
marks_push (other ∷ entries) entry is = let e = marks_push entries entry is in omega (arith, e)

-- the caller of the first of some entries
abbrev caller_in : List DeskEntry → ℕ
caller_in [] = 0
caller_in (Asked ask ∷ rest) = ask.caller
caller_in (Took n ∷ rest) = 0
caller_in (Ended n whole ∷ rest) = 0

-- how many rounds some asks ask for, and of which graphs
abbrev times_in : List Ask → ℕ
times_in [] = 0
times_in (ask ∷ asks) = ask.times + times_in asks

abbrev graphs_in : List Ask → ℕ
graphs_in [] = 0
graphs_in (ask ∷ asks) = ask.graph + graphs_in asks

-- what was seen is a prefix of the history with all asks of the caller
prefix_seen : HasSeen one_open 0 asked × HasSeen asked 1 (Asked first ∷ Asked second ∷ []) × ¬ HasSeen asked 0 (Asked first ∷ Asked second ∷ [])
prefix_seen = (
  ((Took 0 ∷ [], refl), refl),
  ((Asked third ∷ [], refl), refl),
  (λ has. absurd (omega (arith, ap length has.1))),
)

no_prefix : ¬ HasSeen asked 0 (Asked second ∷ [])
no_prefix has = absurd (omega (arith, ap caller_in has.0.1))

-- An ask is the last of those that were asked, and one more of its caller.
abbrev fourth : Ask
fourth = new_ask 3 0 1 5

has_asked : HasAsked 0 1 5 asked (asked ++ Asked fourth ∷ []) 3
has_asked = record { last = refl; kept_it = refl }

asked_by_another_number : ¬ HasAsked 0 1 5 asked (asked ++ Asked fourth ∷ []) 2
asked_by_another_number has = absurd (omega (arith, has.last))

asked_nothing : ¬ HasAsked 0 1 5 asked asked 2
asked_nothing has = absurd (omega (arith, ap length has.kept_it))

asked_of_another_graph : ¬ HasAsked 0 0 5 asked (asked ++ Asked fourth ∷ []) 3
asked_of_another_graph has = absurd (omega (arith, ap graphs_in has.kept_it))

asked_for_fewer_rounds : ¬ HasAsked 0 1 4 asked (asked ++ Asked fourth ∷ []) 3
asked_for_fewer_rounds has = absurd (omega (arith, ap times_in has.kept_it))

asked_for_another_caller : ¬ HasAsked 1 1 5 asked (asked ++ Asked fourth ∷ []) 3
asked_for_another_caller has = absurd (omega (arith, ap length has.kept_it))

-- books refuse an ask if they are full, and else only for memory
full_books : RefusesAsk 10000 (Full 10000) × RefusesAsk 3 NoMemory × ¬ RefusesAsk 3 (Full 3) × ¬ RefusesAsk 10000 (Full 9999) × ¬ RefusesAsk 10000 NoMemory × ¬ RefusesAsk 3 (NoSuchGraph 5) × ¬ RefusesAsk 3 (TooOften 1001)
full_books = (
  (refl, refl),
  omega arith,
  (λ is. let e = is.1 in absurd (omega arith)),
  (λ is. let e = is.0 in absurd (omega arith)),
  (λ is. absurd (omega (arith, is))),
  (λ is. is),
  (λ is. is),
)

-- A book in which all have asked, with a ticket that is back; two tables; what a pass of caller 0 has seen then, and
-- when the first ask was taken, or a fourth was asked, or the desk was full.
module _ (r s : TableId) (other : s ≢ r) (fewer more longer many : Snapshot (Vec DeskEntry Global)) (has_fewer : fewer.value.items ≡ asked) (has_more : more.value.items ≡ one_open)
    (has_longer : longer.value.items ≡ asked ++ Asked fourth ∷ []) (has_many : length (asks_of many.value.items) ≡ 10000) (goes_on : GoesOn asked many.value.items) where
  abbrev book_of : List DeskEntry → BookHistory
  book_of entries = book_history r 2 2 entries (None ∷ [])

  abbrev book : BookHistory
  book = book_of asked

  -- an entry more, and other items
  changed : (with_entry book (Took 0) ≡ book_of one_open) × (with_items book [] ≡ book_history r 2 2 asked [])
  changed = (refl, refl)

  abbrev pass : Outstanding
  pass = Pass 0 fewer

  -- what a ticket is for, and what it has seen
  tickets : IsPassFor 0 pass × ¬ IsPassFor 1 pass × ¬ IsPassFor 0 (Running first) × (entries_seen pass ≡ asked) × (entries_seen (Running first) ≡ [])
  tickets = (refl, (λ is. absurd (omega (arith, is))), (λ is. is), has_fewer, refl)

  holders : (holder_of pass ≡ caller_of 0) × (holder_of (Running third) ≡ ask_of 2)
  holders = (refl, refl)

  nothing_is_out : NothingOut (caller_of 0) (None ∷ [])
  nothing_is_out zero item at same = absurd (cc)
  nothing_is_out (suc n) item at same = absurd (cc)

  only_another_is_out : NothingOut (caller_of 1) (Some pass ∷ [])
  only_another_is_out zero item at same =
      let e : holder_of item ≡ caller_of 0 = ap holder_of (sym (some_same (some_same at))) in
      let f : caller_of 0 ≡ caller_of 1 = sym e ∙ same in absurd (cc)
  only_another_is_out (suc n) item at same = absurd (cc)

  its_pass_is_out : ¬ NothingOut (caller_of 0) (None ∷ Some pass ∷ [])
  its_pass_is_out none = none 1 pass refl refl

  -- the next ticket of a caller's pass, which has seen all entries
  fresh : IsFreshPass book 0 (ticket_state r 1 pass)
  fresh = record { register = refl; number = refl; caller_is = refl; all = has_fewer }

  not_fresh : ¬ IsFreshPass book 0 (ticket_state s 1 pass) × ¬ IsFreshPass book 0 (ticket_state r 0 pass) × ¬ IsFreshPass book 1 (ticket_state r 1 pass) × ¬ IsFreshPass book 0 (ticket_state r 1 (Pass 0 more))
  not_fresh = (
    (λ is. other is.register),
    (λ is. absurd (omega (arith, is.number))),
    (λ is. absurd (omega (arith, is.caller_is))),
    (λ is. absurd (omega (arith, ap length (sym has_more ∙ is.all)))),
  )

  -- the state of a pass
  abbrev old : PassState
  old = pass_state 0 (Some (ticket_state r 3 pass))

  abbrev new : PassState
  new = pass_state 0 (Some (ticket_state r 5 (Pass 0 more)))

  its_state : IsHeld 0 old.ticket × ¬ IsHeld 1 old.ticket × IsTicketOf r old.ticket × ¬ IsTicketOf s old.ticket × (seen old ≡ asked) × (looked old ≡ 3) × (kept old ≡ first ∷ third ∷ [])
  its_state = (refl, (λ is. absurd (omega (arith, is))), refl, (λ is. other (sym is)), has_fewer, refl, ap (asks_by 0) has_fewer)

  without_a_ticket : (entries_in None ≡ []) × (number_in None ≡ 0) × ¬ IsHeld 0 None × ¬ IsTicketOf r None
  without_a_ticket = (refl, refl, (λ is. is), (λ is. is))

  -- it looks again: later, and at no less
  looks : LooksAgain old new
  looks = record { caller = refl; later = omega arith; longer = (Took 0 ∷ [], has_more ∙ ap (λ entries. entries ++ Took 0 ∷ []) (sym has_fewer)) }

  looks_no_later : ¬ LooksAgain old (pass_state 0 (Some (ticket_state r 3 (Pass 0 more))))
  looks_no_later is = let e = is.later in absurd (omega arith)

  looks_as_another : ¬ LooksAgain old (pass_state 1 (Some (ticket_state r 5 (Pass 1 more))))
  looks_as_another is = absurd (omega (arith, is.caller))

  looks_at_less : ¬ LooksAgain new (pass_state 0 (Some (ticket_state r 6 pass)))
  looks_at_less is =
      let e : length asked ≡ length (one_open ++ is.longer.0) = ap length (sym has_fewer ∙ is.longer.1 ∙ ap (λ entries. entries ++ is.longer.0) has_more) in
      absurd (omega (arith, e))

  -- it has looked at the desk of a table, and seen all
  has_looked : HasLooked r one_open old new
  has_looked = record { looks = looks; ticket = refl; all = has_more }

  looked_elsewhere : ¬ HasLooked s one_open old new
  looked_elsewhere is = other (sym is.ticket)

  looked_at_less : ¬ HasLooked r asked old new
  looked_at_less is = absurd (omega (arith, ap length (sym has_more ∙ is.all)))

  all_looked : AllLooked r one_open (old ∷ []) (new ∷ [])
  all_looked = record { count = refl; each = each_one }
    where
      each_one : (c : ℕ) (before after : PassState) → slice_get (old ∷ []) c ≡ Some before → slice_get (new ∷ []) c ≡ Some after → HasLooked r one_open before after
      each_one zero before after at_old at_new = subst (λ p. HasLooked r one_open p after) (some_same at_old) (subst (HasLooked r one_open old) (some_same at_new) has_looked)
      each_one (suc c) before after at_old at_new = absurd (cc)

  one_has_not_looked : ¬ AllLooked r one_open (old ∷ []) [] × ¬ AllLooked r one_open (old ∷ old ∷ []) (new ∷ old ∷ [])
  one_has_not_looked = (
    (λ are. absurd (omega (arith, are.count))),
    (λ are. let is = are.each 1 old old refl refl in absurd (omega (arith, is.looks.later))),
  )

  -- what passes have seen, and whose tickets they have
  have : HaveSeen one_open (old ∷ []) × ¬ HaveSeen (asked ++ Asked fourth ∷ []) (old ∷ []) × HaveTickets r (old ∷ new ∷ []) × ¬ HaveTickets s (old ∷ [])
  have = (
    (subst (HasSeen one_open 0) (sym has_fewer) prefix_seen.0, tt),
    (λ has. absurd (omega (arith, ap length (has.0.1 ∙ ap (asks_by 0) has_fewer)))),
    (refl, (refl, tt)),
    (λ has. other (sym has.0)),
  )

  -- why a desk of two graphs refuses an ask: the graph first, then the rounds, and then what the pass has seen in this
  -- call
  no_third_graph : IsRefused 2 2 1 old old (NoSuchGraph 2) × IsRefused 2 2 1001 old old (NoSuchGraph 2) × ¬ IsRefused 2 1 1 old old (NoSuchGraph 1) × ¬ IsRefused 2 2 1 old old (NoSuchGraph 3)
  no_third_graph = ((refl, omega arith, refl), (refl, omega arith, refl), (λ is. absurd (omega (arith, is.1))), (λ is. absurd (omega (arith, is.0))))

  too_many_rounds : IsRefused 2 0 1001 old old (TooOften 1001) × ¬ IsRefused 2 0 1000 old old (TooOften 1000) × ¬ IsRefused 2 2 1001 old old (TooOften 1001) × ¬ IsRefused 2 0 1001 old old (TooOften 1002)
  too_many_rounds = (
    (refl, omega arith, omega arith, refl),
    (λ is. absurd (omega (arith, is.2))),
    (λ is. absurd (omega (arith, is.1))),
    (λ is. absurd (omega (arith, is.0))),
  )

  refused_without_a_look : ¬ IsRefused 2 2 1 old new (NoSuchGraph 2) × ¬ IsRefused 2 0 1001 old new (TooOften 1001) × ¬ IsRefused 2 0 1 old old NoMemory
  refused_without_a_look = (
    (λ is. absurd (omega (arith, ap looked is.2))),
    (λ is. absurd (omega (arith, ap looked is.3))),
    (λ is. let e = is.2.later in absurd (omega arith)),
  )

  no_memory : IsRefused 2 0 1 old new NoMemory × ¬ IsRefused 2 2 1 old new NoMemory × ¬ IsRefused 2 0 1001 old new NoMemory
  no_memory = (
    (omega arith, omega arith, looks, omega (arith, ap (λ entries. length (asks_of entries)) has_more)),
    (λ is. absurd (omega (arith, is.0))),
    (λ is. absurd (omega (arith, is.1))),
  )

  abbrev at_the_end : PassState
  at_the_end = pass_state 0 (Some (ticket_state r 5 (Pass 0 many)))

  full : IsRefused 2 0 1 old at_the_end (Full 10000)
  full = (
    omega arith,
    omega arith,
    record { caller = refl; later = omega arith; longer = (goes_on.0, goes_on.1 ∙ ap (λ entries. entries ++ goes_on.0) (sym has_fewer)) },
    (sym has_many, has_many),
  )

  not_full : ¬ IsRefused 2 0 1 old new (Full 3) × ¬ IsRefused 2 0 1 old at_the_end (Full 9999) × ¬ IsRefused 2 2 1 old at_the_end (Full 10000) × ¬ IsRefused 2 0 1 old at_the_end NoMemory
  not_full = (
    (λ is. absurd (omega (arith, is.3.1, ap (λ entries. length (asks_of entries)) has_more))),
    (λ is. absurd (omega (arith, is.3.0, has_many))),
    (λ is. absurd (omega (arith, is.0))),
    (λ is. absurd (omega (arith, is.3, has_many))),
  )

  -- an ask was taken up
  abbrev after : PassState
  after = pass_state 0 (Some (ticket_state r 4 (Pass 0 longer)))

  taken_up : IsAsked 2 1 5 old after 3
  taken_up = record {
    graph_there = omega arith;
    few_times = omega arith;
    looks = record { caller = refl; later = omega arith; longer = (Asked fourth ∷ [], has_longer ∙ ap (λ entries. entries ++ Asked fourth ∷ []) (sym has_fewer)) };
    asked = record {
      last = ap (λ entries. length (asks_of entries)) has_longer;
      kept_it = ap (asks_by 0) has_longer ∙ ap (λ entries. asks_by 0 entries ++ fourth ∷ []) (sym has_fewer);
    };
  }

  not_taken_up : ¬ IsAsked 1 1 5 old after 3 × ¬ IsAsked 2 1 1001 old after 3 × ¬ IsAsked 2 1 5 old old 3 × ¬ IsAsked 2 1 5 old after 2
  not_taken_up = (
    (λ is. let e = is.graph_there in absurd (omega arith)),
    (λ is. let e = is.few_times in absurd (omega arith)),
    (λ is. let e = is.looks.later in absurd (omega arith)),
    (λ is. absurd (omega (arith, is.asked.last, ap (λ entries. length (asks_of entries)) has_longer))),
  )

  -- an ask was taken: the first that might be
  has_taken : HasTaken asked one_open (open_ask r first)
  has_taken = record { before = asked; longer = ([], refl); last = refl; first = first_is_first; ask = refl }

  taken_though_none_was : ¬ HasTaken asked asked (open_ask r first)
  taken_though_none_was has = absurd (omega (arith, ap marks has.last, marks_push has.before (Took 0) refl))

  taken_before_it_was_seen : ¬ HasTaken one_open one_open (open_ask r first)
  taken_before_it_was_seen has =
      let e : length one_open ≡ length (has.before ++ Took 0 ∷ []) = ap length has.last in
      let f : length has.before ≡ length (one_open ++ has.longer.0) = ap length has.longer.1 in
      absurd (omega (arith, e, f, length_push has.before (Took 0)))

  -- an ask ended, which was taken
  has_ended : HasEnded one_over (open_ask r first) true
  has_ended = record { before = two_open; last = refl; was_open = refl; ask = refl }

  ended_though_none_has : ¬ HasEnded asked (open_ask r first) true
  ended_though_none_has has = absurd (omega (arith, ap marks has.last, marks_push has.before (Ended 0 true) refl))

  -- what taking comes to
  takes : IsTakeAnswer r 2 asked one_open (Taken (open_ask r first)) × ¬ IsTakeAnswer r 2 asked one_open (Taken (open_ask s first)) × ¬ IsTakeAnswer r 0 asked one_open (Taken (open_ask r first)) × ¬ IsTakeAnswer r 2 asked asked (Taken (open_ask r first))
  takes = ((refl, omega arith, has_taken), (λ is. other is.0), (λ is. absurd (omega (arith, is.1))), (λ is. taken_though_none_was is.2))

  busy_or_empty : IsTakeAnswer r 2 asked two_open (Busy 2) × ¬ IsTakeAnswer r 2 [] asked (Busy 0) × IsTakeAnswer r 2 [] turns Empty × ¬ IsTakeAnswer r 2 [] two_open Empty
  busy_or_empty = ((third_waits, third_is_passed_over), (λ is. none_is_passed_over is.1), none_waits, one_waits)

  -- what the books do where an ask is taken
  abbrev with_running : Ask → BookHistory
  with_running ask = book_history r 2 2 (asked ++ Took ask.number ∷ []) (None ∷ Some (Running ask) ∷ [])

  takes_first : TakesFirst book (with_running first) (open_ask r first)
  takes_first = record { first = first_is_first; ask = refl; graph = omega arith; register = refl; book = refl }

  takes_wrongly : ¬ TakesFirst book (with_running second) (open_ask r second) × ¬ TakesFirst book (with_running first) (open_ask r (new_ask 0 0 0 3)) × ¬ TakesFirst book (with_running first) (open_ask s first) × ¬ TakesFirst book book (open_ask r first)
  takes_wrongly = (
    (λ is. second_is_not_first is.first),
    (λ is. absurd (omega (arith, ap (λ (ask : Ask). ask.times) (some_same is.ask)))),
    (λ is. other is.register),
    (λ is. absurd (omega (arith, ap (λ (b : BookHistory). length b.history) is.book))),
  )

  takes_of_no_graph : ¬ TakesFirst (book_history r 0 2 asked []) (book_history r 0 2 one_open []) (open_ask r first)
  takes_of_no_graph is = let e = is.graph in absurd (omega arith)

  -- and where one ends
  ends : EndsTaken (book_of two_open) (open_ask r first) true (book_of one_over)
  ends = record { was_open = refl; ask = refl; book = refl }

  ends_wrongly : ¬ EndsTaken (book_of two_open) (open_ask r third) true (book_of (two_open ++ Ended 2 true ∷ [])) × ¬ EndsTaken (book_of two_open) (open_ask r (new_ask 0 0 0 3)) true (book_of one_over) × ¬ EndsTaken (book_of two_open) (open_ask r first) true (book_of two_open)
  ends_wrongly = (
    (λ is. let e : Waiting ≡ Open = is.was_open in cc),
    (λ is. absurd (omega (arith, ap (λ (ask : Ask). ask.times) (some_same is.ask)))),
    (λ is. absurd (omega (arith, ap (λ (b : BookHistory). length b.history) is.book))),
  )

  -- cut and not whole
  ends_cut : ¬ EndsTaken (book_of two_open) (open_ask r first) false (book_of one_over)
  ends_cut is = let e : Over true ≡ Over false = ap (λ (b : BookHistory). turn_of b.history 0) is.book in cc
