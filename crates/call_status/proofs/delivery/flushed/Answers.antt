use Rattle.std.proofs.Common.{subst, Result}
use Rattle.outside_io.specs.declared.ports.sink.SinkFault.{SinkFault}
use Rattle.outside_io.specs.Sink.{Writes}
use Rattle.call_status.proofs.Deliveries.{flush_delivers}
use Rattle.call_status.proofs.delivery.flushed.Goals as goal

pub returns-in-Ok : goal.returns-in-Ok
returns-in-Ok g c = λ before bytes none wrote.
    let accepted = subst (λ (written : Result (Unit {0}) SinkFault). Writes before (g.S.Sink.state c.args.sink.now) bytes written) c.in-Ok.is wrote in
    let flush = c.flush.ensures in
    flush_delivers before (g.S.Sink.state c.args.sink.now) (g.S.Sink.state c.flush.new.self) bytes c.flush.result none accepted
    (record { ok = flush.ok; err = flush.err; failed = flush.failed; nothing_held = flush.nothing_held })
