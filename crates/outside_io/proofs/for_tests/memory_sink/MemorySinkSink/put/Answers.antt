use Rattle.std.proofs.Common.{rules, inl, ◌+◌}
use Rattle.outside_io.proofs.Pieces.{fails_by}
use Rattle.outside_io.proofs.for_tests.memory_sink.MemorySinkSink.put.Goals as goal

pub returns-in-Some-clause-writes : goal.returns-in-Some-clause-writes
returns-in-Some-clause-writes c = fails_by c.args.self.now.bytes c.add_all-taken.new.self c.args.piece.now c.in-Some.row.now.taken c.args.self.now.faults (c.self.inside.faults + 1) (search rules) (search rules)

pub returns-in-Err-clause-puts : goal.returns-in-Err-clause-puts
returns-in-Err-clause-puts c = (search rules, inl (search rules))
