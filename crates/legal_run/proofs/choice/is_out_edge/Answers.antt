use Rattle.std.proofs.Common.{sym, ◌∙◌, ap, false, eqb, List, get_or}
use Rattle.task_graph.specs.declared.net.EdgeRow.{EdgeRow}
use Rattle.journal_rules.proofs.Rounding.{row_stands}
use Rattle.legal_run.proofs.Marking.{out_is}
use Rattle.legal_run.proofs.choice.is_out_edge.Goals as goal

abbrev no_row : EdgeRow
no_row = record { from = 0; to = 0; start = false }

pub returns : goal.returns
returns c =
    ap (λ (rows : List EdgeRow). eqb (get_or rows c.args.edge no_row).from c.args.task) c.edges.ensures.rows
    ∙ sym (out_is c.args.net.now c.args.task c.args.edge _ (row_stands c.args.net.now c.args.edge no_row c.requires))
