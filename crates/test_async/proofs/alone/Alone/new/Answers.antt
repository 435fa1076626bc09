use Rattle.test_async.proofs.OnePass.{first_pass, first_seat}
use Rattle.test_async.proofs.alone.Alone.new.Goals as goal

pub invariant_of-result : goal.invariant_of-result
invariant_of-result c =
    let parts = c.in_ok-book.field-0 in
    let first = first_pass parts.book parts.passes.items c.remove-pass.result c.in_ok-book.ensures.passes c.in_ok-book.ensures.callers c.remove-pass.ensures.value in
    record {
      pass_of = first.0;
      seat_of = first_seat parts.book parts.seats.items c.remove-seat.result c.in_ok-book.ensures.seats c.in_ok-book.ensures.workers c.remove-seat.ensures.value;
      one_caller = (c.in_ok-book.ensures.callers, first.1);
    }
