use Rattle.std.proofs.Common.{◌≡◌, ℕ, List, length, map, All, refl, sym, subst, ap, ◌∙◌}
use Rattle.graph_plans.specs.declared.ops.Op.{Op}
use Rattle.graph_plans.specs.PlanEdges.{IsAmong, edge_row}
use Rattle.graph_drafts.specs.FileText.{DraftRows}
use Rattle.graph_file.specs.PlanText.{edges_from}
use Rattle.graph_file.specs.inside.Drafts.{NamesOnce}
use Rattle.graph_drafts.specs.inside.Reading.{draft_rows, strings}
use Rattle.graph_drafts.proofs.BindLemmas.{if-ok}
use Rattle.graph_file.proofs.GraphLemmas.{graph-made, ready-among, ready-each, ready-edges, ready-units}
use Rattle.graph_file.proofs.NumberLemmas.{names-drafted}
use Rattle.graph_file.proofs.graphs.graph_with.Goals as goal

pub net_with-requires-clause-each : goal.net_with-requires-clause-each
net_with-requires-clause-each c =
    ready-each (strings c.args.modules.now.names) (strings c.args.texts.now.names) (draft_rows c.args.draft) c.args.numbers.now c.requires.ready ∙ ap length (sym (c.as_slice-4.ensures ∙ c.in_ok-ops.ensures))

pub net_with-requires-clause-units : goal.net_with-requires-clause-units
net_with-requires-clause-units c =
    subst (λ (sems : List ℕ). All (NamesOnce (length sems)) c.args.numbers.now) (sym c.as_slice-3.ensures)
    (ready-units (strings c.args.modules.now.names) (strings c.args.texts.now.names) (draft_rows c.args.draft) c.args.numbers.now c.requires.ready)

pub net_with-requires-clause-edges : goal.net_with-requires-clause-edges
net_with-requires-clause-edges c =
    let are : map edge_row c.as_slice-5.result.now ≡ edges_from 0 c.args.numbers.now = ap (map edge_row) c.as_slice-5.ensures ∙ c.in_ok-edges.ensures in
    ready-edges (strings c.args.modules.now.names) (strings c.args.texts.now.names) (draft_rows c.args.draft) c.args.numbers.now c.requires.ready c.as_slice-5.result.now are

pub net_with-requires-clause-among : goal.net_with-requires-clause-among
net_with-requires-clause-among c =
    let are : map edge_row c.as_slice-5.result.now ≡ edges_from 0 c.args.numbers.now = ap (map edge_row) c.as_slice-5.ensures ∙ c.in_ok-edges.ensures in
    subst (λ (ops : List Op). All (IsAmong (length ops)) (map edge_row c.as_slice-5.result.now)) (sym (c.as_slice-4.ensures ∙ c.in_ok-ops.ensures))
    (ready-among (strings c.args.modules.now.names) (strings c.args.texts.now.names) (draft_rows c.args.draft) c.args.numbers.now c.requires.ready c.as_slice-5.result.now are)

pub returns : goal.returns
returns c =
    let draft : DraftRows = draft_rows c.args.draft in
    if-ok c.graph_of.result
    (λ graph is. is ∙ graph-made (strings c.args.modules.now.names) (strings c.args.texts.now.names) draft c.args.numbers.now c.in_ok-name.name c.in_ok-names.names c.in_ok-sem_names.sem_names c.in_ok-ops.ops c.as_slice-3.result.now c.as_slice-4.result.now c.as_slice-5.result.now
    c.in_ok-net.net c.in_ok-net.net (c.in_ok-name.ensures ∙ c.as_bytes.ensures.value) (c.in_ok-names.ensures ∙ names-drafted c.args.draft c.as_slice.result.now c.as_slice.ensures.value) c.in_ok-ops.ensures
    (c.in_ok-sem_names.ensures ∙ ap strings c.as_slice-2.ensures) c.as_slice-3.ensures c.as_slice-4.ensures (ap (map edge_row) c.as_slice-5.ensures ∙ c.in_ok-edges.ensures) c.in_ok-net.ensures refl)
    c.graph_of.ensures
