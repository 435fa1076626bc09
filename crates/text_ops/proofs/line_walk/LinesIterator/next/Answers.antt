use Rattle.std.proofs.Common.{sym, ap, ◌∙◌, arith, length}
use Rattle.text_ops.specs.Lines.{lines_of}
use Rattle.text_ops.proofs.WalkLemmas.{no_line, first_line_is, rest_normal}
use Rattle.text_ops.proofs.line_walk.LinesIterator.next.Goals as goal

pub returns-in_err-end-clause-steps : goal.returns-in_err-end-clause-steps
returns-in_err-end-clause-steps c =
    let empty = sym c.self.view_is ∙ ap lines_of (no_line c.self.inside.rest.now c.self.invariant c.in_err-end.ensures) in
    rw c.from_residual.ensures (empty, empty)

pub invariant_of-self : goal.invariant_of-self
invariant_of-self c = rest_normal c.self.inside.rest.now c.in_ok-end.end c.in_ok-end.ensures c.self.invariant

pub returns-clause-steps : goal.returns-clause-steps
returns-clause-steps c = sym c.self.view_is ∙ first_line_is c.self.inside.rest.now c.in_ok-end.end c.in_ok-end.ensures

pub returns-clause-goes : goal.returns-clause-goes
returns-clause-goes c = let steps = ap length (returns-clause-steps c) in record { on = λ _. (tt, tt, omega (arith, steps)); keeps = tt; rests = λ _. tt }
