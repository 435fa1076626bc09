use Rattle.std.proofs.Common.{◌<◌, length, sym, ap, ◌∙◌, arith}
use Rattle.std.specs.Arc.{arc_value}
use Rattle.pipe_lines.specs.Orders.{passed_at}
use Rattle.pipe_lines.proofs.StepLemmas.{token_within}
use Rattle.pipe_lines.proofs.gate.Gate.pass.Goals as goal

pub overflow_add-self : goal.overflow_add-self
overflow_add-self c = omega (arith, within, c.self.invariant)
  where
    within : c.self.inside.place < length (arc_value c.self.inside.order).passed
    within = token_within (arc_value c.self.inside.order) c.self.inside.place c.in-Token.field-0 (ap (λ order. passed_at order c.self.inside.place) (sym c.deref.ensures) ∙ sym c.at-passed.ensures ∙ c.in-Token.is)
