use Rattle.std.proofs.Common.{◌∷◌, [], ◌++◌, List, ℕ, sym, ap, subst, ◌∙◌}
use Rattle.graph_plans.specs.PlanRows.{IsPlan}
use Rattle.graph_generator.proofs.RuleLemmas.{plan-keeps, plan-made}
use Rattle.graph_generator.proofs.generated.generate.Goals as goal

pub returns-clause-rules : goal.returns-clause-rules
returns-clause-rules c =
    let texts = c.in_ok-push.ensures.ok ∙ ap (λ (before : List (List ℕ)). before ++ c.in_ok-from_slice.field-0 ∷ []) c.new-texts.ensures ∙ ap (λ (name : List ℕ). name ∷ []) c.in_ok-from_slice.ensures in
    subst IsPlan (sym (plan-made c.args.layers (record { top = c.in_ok-top.top; modules = c.new.result; texts = c.push.new.self }) c.in_ok-top.ensures c.new.ensures texts)) (plan-keeps c.args.layers c.requires.few)
