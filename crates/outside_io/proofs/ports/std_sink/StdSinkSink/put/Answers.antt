use Rattle.std.proofs.Common.{rules}
use Rattle.outside_io.proofs.Streams.{puts_behind, puts_nothing}
use Rattle.outside_io.proofs.ports.std_sink.StdSinkSink.put.Goals as goal

pub returns-in-Err : goal.returns-in-Err
returns-in-Err g c = puts_nothing g.W.Write.contents _ _ c.args.piece.now c.in-Err.fault (search rules)

pub returns : goal.returns
returns g c = puts_behind g.W.Write.contents _ c.write_held.new.self _ c.args.piece.now c.write.result (search rules) (search rules)
