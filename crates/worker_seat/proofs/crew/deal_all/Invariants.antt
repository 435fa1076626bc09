use Rattle.std.proofs.Common.{◌≡◌, ◌+◌, ◌-◌, ◌≤◌, length, vec_capacity}
use Rattle.span_book.specs.SpanBooks.{name_of, tally_state}
use Rattle.worker_seat.specs.inside.Attendances.{AreNew}
use Rattle.worker_seat.proofs.crew.deal_all.Given as goal

abbrev pub invariant-loop : goal.invariant-loop
invariant-loop l = record {
  spans : l.spans ≡ tally_state (name_of l.book) (l.count - l.counter) 0 0 0;
  room : vec_capacity l.tellers ≡ l.count;
  tellers : AreNew (name_of l.book) l.tellers.items;
  dealt : length l.tellers.items ≡ l.counter;
}
