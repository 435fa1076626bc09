use Rattle.graph_file.proofs.ReadingLemmas.{plan-found, refusal-reported, rules-kept}
use Rattle.graph_file.proofs.reader.read_graph.Goals as goal

pub returns-clause-plan : goal.returns-clause-plan
returns-clause-plan c = plan-found c.args.bytes.now c.read_by_steps.result c.read_by_steps.ensures

pub returns-clause-rules : goal.returns-clause-rules
returns-clause-rules c = rules-kept c.args.bytes.now c.read_by_steps.result c.read_by_steps.ensures

pub returns-clause-refusal : goal.returns-clause-refusal
returns-clause-refusal c = refusal-reported c.args.bytes.now c.read_by_steps.result c.read_by_steps.ensures
