use Rattle.std.proofs.Common.{take}
use Rattle.task_graph.specs.Net.{out_edges}
use Rattle.journal_rules.specs.ChoiceRule.{AreAmong}
use Rattle.legal_run.proofs.choice.are_out_edges.Given as goal

abbrev pub invariant-loop-edge : goal.invariant-loop-edge
invariant-loop-edge l = AreAmong (out_edges l.net l.task) (take l.edge-index l.gives)
