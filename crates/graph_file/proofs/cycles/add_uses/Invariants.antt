use Rattle.std.proofs.Common.{◌≡◌, ◌++◌, map, take}
use Rattle.graph_file.specs.inside.UseNets.{use_edge}
use Rattle.graph_file.proofs.cycles.add_uses.Given as goal

abbrev pub invariant-loop-other : goal.invariant-loop-other
invariant-loop-other l = l.builder ≡ record l.fn.builder { edges = l.fn.builder.edges ++ map (use_edge l.user) (take l.other-index l.used) }
