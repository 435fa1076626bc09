use Rattle.std.proofs.Common.{[], sym}
use Rattle.std.proofs.lemmas.List.{get_or_past}
use Rattle.flow_run.proofs.report.task_name.Goals as goal

pub returns-in-None : goal.returns-in-None
returns-in-None c = sym (get_or_past c.args.names.now c.args.task [] c.in-None.ensures.lookup.3)
