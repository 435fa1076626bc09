use Rattle.std.proofs.Common.{false, All, ◌≡◌, sym, subst}
use Rattle.task_graph.specs.NetRows.{NetRows}
use Rattle.task_graph.specs.declared.net.EdgeRow.{EdgeRow}
use Rattle.graph_file.specs.inside.UseNets.{IsFirstOnCycle}
use Rattle.graph_drafts.proofs.BindLemmas.{if-ok}
use Rattle.graph_file.proofs.CycleLemmas.{first-found, without-tokens}
use Rattle.graph_file.proofs.cycles.first_on_cycle.Goals as goal

pub first_cycle-requires : goal.first_cycle-requires
first_cycle-requires c = subst (λ (net : NetRows). All (λ (row : EdgeRow). row.start ≡ false) net.edges) (sym c.in_ok-net.ensures) (without-tokens c.args.uses.now)

pub returns : goal.returns
returns c = if-ok c.first_cycle.result (λ found first. first-found c.args.uses.now found c.requires (subst (λ (net : NetRows). IsFirstOnCycle net found) c.in_ok-net.ensures first)) c.first_cycle.ensures
