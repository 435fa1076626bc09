-- A book may be shared by threads, and its tellers, the spans of runs and tallies may go to them.
use denote.Param.Send.{IsSend, IsSync, sendable}
use Rattle.std.proofs.Crossing.{crosses, frees}
use Rattle.std.proofs.alloc.Global.TheSendSync as heap
use Rattle.atomic_table.proofs.shared.Seat.TheSendSync as seat
use Rattle.atomic_table.proofs.shared.Shared.TheSendSync as shared
use Rattle.atomic_table.proofs.send_lease.SendLease.TheSendSync as lease
use Rattle.std.proofs.option.Option.TheSendSync as option
use Rattle.span_book.specs.contracts.book.RunSpans as run_spans
use Rattle.span_book.specs.contracts.book.SpanBook as span_book
use Rattle.span_book.specs.contracts.book.Tally as tally
use Rattle.span_book.specs.contracts.book.Teller as teller

ruleset tables = (crosses, frees, heap.the_field_send, heap.the_field_sync, heap.the_send, heap.the_sync, seat.the_send, shared.the_send, shared.the_sync, lease.the_send, lease.the_sync, option.the_send, option.the_sync, sendable)

pub book_send : IsSend span_book.the_row
book_send = search tables depth 60 fits 20000

pub book_sync : IsSync span_book.the_row
book_sync = search tables depth 60 fits 20000

pub teller_send : IsSend teller.the_row
teller_send = search tables depth 60 fits 20000

pub spans_send : IsSend run_spans.the_row
spans_send = search tables depth 60 fits 20000

pub tally_send : IsSend tally.the_row
tally_send = search tables depth 60 fits 20000
