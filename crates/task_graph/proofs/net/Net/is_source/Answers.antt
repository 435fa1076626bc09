use Rattle.std.proofs.Common.{arith}
use Rattle.std.proofs.lemmas.Grind.{common_steps}
use Rattle.task_graph.proofs.PlaceLemmas.{source_from_none, strong_in-source, weak_in-source}
use Rattle.task_graph.proofs.net.Net.is_source.Goals as goal

pub returns-then-is_empty : goal.returns-then-is_empty
returns-then-is_empty c =
    let source = source_from_none c.args.self.now c.args.task in
    let strong = strong_in-source c.args.self.now c.args.task in
    let weak = weak_in-source c.args.self.now c.args.task in
    grind (arith, common_steps, source, strong, weak)

pub returns-else-is_empty : goal.returns-else-is_empty
returns-else-is_empty c =
    let strong = strong_in-source c.args.self.now c.args.task in
    grind (arith, common_steps, strong)
