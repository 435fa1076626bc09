use Rattle.std.proofs.Common.{rules, ℕ, List, sym, subst, drop_of_length-le, Bor}
use Rattle.outside_io.specs.StdSink.{WroteBut}
use Rattle.outside_io.proofs.Streams.{wrote_all, wrote_more, wrote_no_more}
use Rattle.outside_io.proofs.ports.std_sink.write_whole.Goals as goal
use Rattle.outside_io.proofs.ports.std_sink.write_whole.Goals.{in-Ok, in-Err}

pub loop-write-preserved : goal.loop-write-preserved
loop-write-preserved g c =
    let Rest : Bor (List ℕ) → Type 0 = λ rest. WroteBut (g.W.Write.contents c.args.stream.now) (g.W.Write.contents c.write.new.self) c.args.bytes.now rest.now in
    elim c.match-write.branch [
      | in-Ok w ↦ subst Rest (sym w.rest-is) (wrote_more _ _ _ c.args.bytes.now c.loop-write.rest.now w.in-Ok.count c.loop-write.invariant w.in-Ok.ensures.bytes)
      | in-Err w ↦ subst Rest (sym w.rest-is) (wrote_no_more _ _ _ c.args.bytes.now c.loop-write.rest.now c.loop-write.invariant w.in-Err.ensures.bytes)
    ]

pub returns-then-is_empty : goal.returns-then-is_empty
returns-then-is_empty g c = wrote_all _ _ c.args.bytes.now c.loop-write.rest.now (drop_of_length-le c.loop-write.rest.now {i = 0} (search rules)) c.loop-write.invariant
