use Rattle.std.proofs.Common.{◌≡◌, arith, ap, sym, subst, ◌∙◌}
use Rattle.std.proofs.lemmas.Grind.{common_steps}
use Rattle.std.specs.Prelude.{slice_index_or}
use Rattle.std.specs.Arc.{arc_value}
use Rattle.span_book.specs.SpanBooks.{teller_state}
use Rattle.worker_seat.specs.Crews.{state_of}
use Rattle.worker_seat.specs.inside.SeatPlaces.{IsRunOn}
use Rattle.worker_seat.proofs.ChangedLemmas.{after_error, next_has, moved_next, moved_all, sent_refused}
use Rattle.worker_seat.proofs.SeatingLemmas.{front_is, last_is}
use Rattle.worker_seat.proofs.seats.try_send_all.Goals as goal

pub loop-seat-preserved : goal.loop-seat-preserved
loop-seat-preserved g c =
    let sent = rw c.in_ok-run.ensures at c.attend.ensures in
    record {
      seats = moved_next _ _ _ _ _ _ c.loop-seat.invariant.seats c.loop-seat-test.true c.seat-item.is sent;
      tellers = front_is (λ teller. teller ≡ teller_state (arc_value c.args.run.now).book.name 0) _ _ c.in-Some.teller c.loop-seat.invariant.tellers c.in-Some.ensures.items;
      count = grind (arith, common_steps);
    }

pub returns-clause-ok : goal.returns-clause-ok
returns-clause-ok g c = moved_all _ _ _ _ c.loop-seat.invariant.seats c.loop-seat-test.false

pub returns-in_err-run-clause-err : goal.returns-in_err-run-clause-err
returns-in_err-run-clause-err g c = after_error _ _ (sent_refused _ _ _ _ _ _ c.loop-seat.invariant.seats)

pub attend-requires-clause-run : goal.attend-requires-clause-run
attend-requires-clause-run g c κs within =
    let old = next_has (λ s. IsRunOn (state_of s).list (arc_value c.args.run.now)) _ _ _ _ c.seat-item.result c.requires.list c.loop-seat.invariant.seats c.loop-seat-test.true in
    subst (λ run. IsRunOn (state_of (slice_index_or c.loop-seat.seats c.loop-seat.seat-index c.seat-item.result)).list run) (sym c.in_ok-run.ensures) old

pub attend-requires-clause-teller : goal.attend-requires-clause-teller
attend-requires-clause-teller g c κs within =
    last_is (λ teller. teller ≡ teller_state (arc_value c.args.run.now).book.name 0) _ _ c.in-Some.teller c.loop-seat.invariant.tellers c.in-Some.ensures.items
    ∙ ap (λ run. teller_state run.book.name 0) (sym c.in_ok-run.ensures)
