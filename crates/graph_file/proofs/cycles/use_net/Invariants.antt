use Rattle.std.proofs.Common.{◌≡◌, ◌≤◌, [], map, take}
use Rattle.graph_file.specs.inside.UseNets.{module_row, use_edges}
use Rattle.graph_file.proofs.cycles.use_net.Given as goal

abbrev pub invariant-loop : goal.invariant-loop
invariant-loop l = (l.builder ≡ record { tasks = map (λ used. module_row) (take l.index l.uses); edges = []; sems = [] }) × (l.index ≤ 4000000)

abbrev pub invariant-loop-user : goal.invariant-loop-user
invariant-loop-user l = l.builder ≡ record { tasks = map (λ used. module_row) l.uses; edges = use_edges 0 (take l.user l.uses); sems = [] }
