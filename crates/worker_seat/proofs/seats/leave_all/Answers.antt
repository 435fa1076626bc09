use Rattle.std.proofs.Common.{◌≡◌, ◌∙◌, ap, subst, sym}
use Rattle.std.specs.Prelude.{IfSome, slice_index_or}
use Rattle.std.specs.Arc.{arc_value}
use Rattle.worker_seat.specs.Crews.{MayHaveBook, state_of}
use Rattle.worker_seat.proofs.ChangedLemmas.{moved_next, moved_all, next_has}
use Rattle.worker_seat.proofs.LeavingLemmas.{book_from, left_next, settled_all}
use Rattle.worker_seat.proofs.seats.leave_all.Goals as goal

pub loop-seat-preserved : goal.loop-seat-preserved
loop-seat-preserved g c = record {
  seats = moved_next _ _ _ _ _ _ c.loop-seat.invariant.seats c.loop-seat-test.true c.seat-item.is c.leave.ensures.seat;
  spans = left_next _ _ _ c.seat-item.result _ _ _ c.loop-seat.invariant.seats c.loop-seat-test.true c.loop-seat.invariant.spans c.leave.ensures.spans;
  run = c.loop-seat.invariant.run;
}

pub leave-requires-clause-book : goal.leave-requires-clause-book
leave-requires-clause-book g c κs within =
    subst (λ run. IfSome (state_of (slice_index_or c.loop-seat.seats c.loop-seat.seat-index c.seat-item.result)).book (λ own. own ≡ run.book)) (sym c.deref.ensures)
    (next_has (MayHaveBook (arc_value c.args.fetched.run).book) _ _ _ _ c.seat-item.result c.requires.book c.loop-seat.invariant.seats c.loop-seat-test.true)

pub leave-requires-clause-spans : goal.leave-requires-clause-spans
leave-requires-clause-spans g c κs within =
    ap (λ tally. tally.book) c.loop-seat.invariant.spans ∙ book_from c.loop-seat.seat-index c.args.seats.now c.args.fetched.closed.spans ∙ c.requires.spans ∙ ap (λ run. run.book.name) (sym c.deref.ensures)

pub settle-requires-after_bounds : goal.settle-requires-after_bounds
settle-requires-after_bounds g c κs within =
    ap (λ tally. tally.book) c.loop-seat.invariant.spans ∙ book_from c.loop-seat.seat-index c.args.seats.now c.args.fetched.closed.spans ∙ c.requires.spans ∙ ap (λ run. run.book.name) (sym c.deref-2.ensures)

pub returns-clause-seats : goal.returns-clause-seats
returns-clause-seats g c = moved_all _ _ _ _ c.loop-seat.invariant.seats c.loop-seat-test.false

pub returns-clause-spans : goal.returns-clause-spans
returns-clause-spans g c =
    settled_all _ _ _ _ _ _ c.loop-seat.invariant.spans c.loop-seat-test.false (ap (λ run. run.book.tellers) c.deref-2.ensures) c.settle.ensures.even
