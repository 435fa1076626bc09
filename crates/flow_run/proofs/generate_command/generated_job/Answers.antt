use Rattle.std.proofs.Common.{rules, ◌≡◌, List, [], ◌∷◌, sym, ap, ◌∙◌, subst}
use Rattle.std.specs.Arc.{arc_value}
use Rattle.graph_plans.specs.PlanRows.{IsPlan, plan_rows}
use Rattle.graph_plans.specs.declared.plans.Plan.{Plan}
use Rattle.graph_generator.specs.GeneratedText.{generated_text}
use Rattle.text_ops.specs.Lines.{IsNormal}
use Rattle.flow_run.proofs.GeneratedLemmas.{generated_value, generated_work}
use Rattle.flow_run.proofs.generate_command.generated_job.Goals as goal

pub from_lines-requires : goal.from_lines-requires
from_lines-requires g c = subst IsNormal (sym c.in_ok-plan.ensures.text) (generated_value c.args.layers).normal

pub first_job-requires : goal.first_job-requires
first_job-requires g c =
    let made = c.in_ok-plan.ensures in
    let plan : arc_value c.in_ok-plan-2.plan ≡ c.in_ok-plan.field-0.plan = search rules in
    let texts : arc_value c.in_ok-texts-2.texts ≡ generated_text c.args.layers ∷ [] = search rules in
    rw texts (generated_work c.args.layers (plan_rows (arc_value c.in_ok-plan-2.plan)) (subst (λ (p : Plan). IsPlan (plan_rows p)) (sym plan) made.rules) (ap plan_rows plan ∙ made.plan))
