use Rattle.std.proofs.Common.{sym, ◌∙◌}
use Rattle.pitfall_check.proofs.StepLemmas.{weak_where_chooses}
use Rattle.pitfall_check.proofs.ComponentLemmas.{stays_in_equal_component}
use Rattle.pitfall_check.proofs.components.stays_in_component.Goals as goal

pub returns-then-components-head : goal.returns-then-components-head
returns-then-components-head c = λ e here ends.
    stays_in_equal_component c.args.net.now c.args.components.now c.args.task e c.args.head c.task_chooses.result ends
    (c.task_chooses.ensures ∙ sym (weak_where_chooses c.args.net.now c.args.task e here)) c.if-components-head.true
