use Rattle.graph_file.specs.PlanText.{add_graph_numbers}
use Rattle.graph_drafts.specs.inside.Reading.{draft_rows, strings}
use Rattle.graph_drafts.proofs.WalkLemmas.{GoesOn-more, GoesOn-refused}
use Rattle.graph_file.proofs.numbers.add_graphs.Goals as goal

pub returns-in-Err : goal.returns-in-Err
returns-in-Err c =
    GoesOn-refused draft_rows (add_graph_numbers (strings c.args.modules.now.names)) c.args.numbers.now.items c.args.drafts.now c.loop-draft.draft-index c.draft-item.result c.loop-draft.numbers.items c.in-Err.refusal
    c.loop-draft-test.true c.draft-item.is c.in-Err.ensures c.loop-draft.invariant

pub loop-draft-preserved : goal.loop-draft-preserved
loop-draft-preserved c =
    GoesOn-more draft_rows (add_graph_numbers (strings c.args.modules.now.names)) c.args.numbers.now.items c.args.drafts.now c.loop-draft.draft-index c.draft-item.result c.loop-draft.numbers.items c.add_graph.new.numbers.items
    c.loop-draft-test.true c.draft-item.is c.in_default.ensures c.loop-draft.invariant
