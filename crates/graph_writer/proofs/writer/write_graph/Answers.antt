use Rattle.serde_json.specs.View.{view}
use Rattle.graph_plans.specs.PlanRows.{plan_rows}
use Rattle.graph_drafts.proofs.BindLemmas.{if-ok}
use Rattle.graph_writer.proofs.WritableLemmas.{plan-shallow, plan-whole, stands-for, writable}
use Rattle.graph_writer.proofs.writer.write_graph.Goals as goal

pub file_value-requires : goal.file_value-requires
file_value-requires c = writable c.requires.bytes (plan_rows c.args.plan.now) c.requires.stands

pub file_bytes-requires-clause-shallow : goal.file_bytes-requires-clause-shallow
file_bytes-requires-clause-shallow c = rw c.in_ok-file.ensures (plan-shallow (plan_rows c.args.plan.now))

pub file_bytes-requires-clause-whole : goal.file_bytes-requires-clause-whole
file_bytes-requires-clause-whole c = rw c.in_ok-file.ensures (plan-whole (plan_rows c.args.plan.now))

pub returns-clause-reads_back : goal.returns-clause-reads_back
returns-clause-reads_back c =
    if-ok c.file_bytes.result (λ bytes json. stands-for c.requires.bytes bytes (plan_rows c.args.plan.now) (view c.in_ok-file.file) c.requires.stands c.in_ok-file.ensures json) c.file_bytes.ensures.reads_back
