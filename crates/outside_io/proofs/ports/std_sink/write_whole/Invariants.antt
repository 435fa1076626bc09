use Rattle.outside_io.specs.StdSink.{WroteBut}
use Rattle.outside_io.proofs.ports.std_sink.write_whole.Given as goal

abbrev pub invariant-loop-write : goal.invariant-loop-write
invariant-loop-write g l = WroteBut (g.W.Write.contents l.fn.stream) (g.W.Write.contents l.stream) l.bytes l.rest
