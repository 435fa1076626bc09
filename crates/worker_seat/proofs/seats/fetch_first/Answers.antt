use Rattle.std.proofs.Common.{◌≡◌, ◌∙◌, All, ap, refl, subst, sym}
use Rattle.std.specs.Prelude.{is_some, slice_set, slice_index_or}
use Rattle.std.specs.Arc.{arc_value}
use Rattle.nested_runs.specs.Totals.{all_spans}
use Rattle.worker_seat.specs.Crews.{IsFoundRunOf, MayHaveBook, state_of, watcher_of}
use Rattle.worker_seat.proofs.FoundLemmas.{first_below, first_is_closed, none_closed, left_all, run_found, some_not_none}
use Rattle.worker_seat.proofs.LeavingLemmas.{all_spans_told, one_left, same_book}
use Rattle.worker_seat.proofs.seats.fetch_first.Goals as goal

pub returns-in_default-clause-none : goal.returns-in_default-clause-none
returns-in_default-clause-none g c = λ _. (none_closed _ c.in_default.ensures, refl)

pub leave_all-requires-clause-book : goal.leave_all-requires-clause-book
leave_all-requires-clause-book g c κs within =
    let lt = first_below _ _ c.index-seats-first.result c.in-Some.ensures in
    let same = same_book c.requires.book (arc_value c.in-Some-fetch.fetched.run).book _ _ c.index-seats-first.result c.requires.each lt c.in-Some-fetch.ensures.run.book in
    subst (λ book. All (MayHaveBook book) (slice_set c.args.seats.now c.in-Some.first record { watcher = watcher_of (slice_index_or c.args.seats.now c.in-Some.first c.index-seats-first.result); station = c.fetch.new.self }))
    (sym same) (one_left c.requires.book _ _ c.index-seats-first.result _ c.requires.each c.in-Some-fetch.ensures.seat)

pub unreachable-requires : goal.unreachable-requires
unreachable-requires g c =
    let closed = first_is_closed _ _ c.index-seats-first.result c.in-Some.ensures in
    some_not_none c.fetch.result (c.fetch.ensures.found closed) (ap is_some c.in-None.is)

pub returns-clause-run : goal.returns-clause-run
returns-clause-run g c =
    let fetched = c.in-Some-fetch.ensures.run in
    let lt = first_below _ _ c.index-seats-first.result c.in-Some.ensures in
    subst (IsFoundRunOf g.J.Job.meaning c.args.seats.now) (sym c.leave_all.ensures.run) (run_found g.J.Job.meaning _ _ c.index-seats-first.result _ lt (fetched.kept, fetched.found))

pub returns-clause-left : goal.returns-clause-left
returns-clause-left g c = λ _.
    left_all _ _ _ c.index-seats-first.result _ (first_below _ _ c.index-seats-first.result c.in-Some.ensures) c.in-Some-fetch.ensures.seat c.leave_all.ensures.seats

pub returns-clause-spans : goal.returns-clause-spans
returns-clause-spans g c = λ all.
    let fetched = c.in-Some-fetch.ensures.run in
    let lt = first_below _ _ c.index-seats-first.result c.in-Some.ensures in
    let same = same_book c.requires.book (arc_value c.in-Some-fetch.fetched.run).book _ _ c.index-seats-first.result c.requires.each lt fetched.book in
    let spans = c.in-Some-fetch.fetched.closed.spans in
    all_spans_told c.args.seats.now c.in-Some.first c.index-seats-first.result c.fetch.new.self spans.tellers spans.told spans.noted (all_spans c.leave_all.result) (arc_value c.in-Some-fetch.fetched.run).book.tellers
    lt c.in-Some-fetch.ensures.seat (ap (λ tally. tally.tellers) fetched.account) (ap (λ tally. tally.told) fetched.account)
    (ap (λ tally. tally.noted) fetched.account ∙ ap all_spans (sym c.leave_all.ensures.run)) (ap (λ book. book.tellers) same ∙ c.requires.count) c.leave_all.ensures.spans all
