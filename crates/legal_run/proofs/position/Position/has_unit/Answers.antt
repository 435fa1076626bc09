use Rattle.std.proofs.Common.{arith, ap, sym, subst, ℕ, List, get_or}
use Rattle.journal_rules.specs.declared.units.UnitCount.{UnitCount}
use Rattle.journal_rules.specs.inside.Units.{CountsUnit}
use Rattle.legal_run.proofs.position.Position.has_unit.Goals as goal

pub returns : goal.returns
returns c =
    let at = c.self.invariant in
    let below = rw (← c.self.view_is) at c.requires in
    let count = subst (λ (u : UnitCount). CountsUnit c.self.inside.net.now c.self.inside.journal.now c.args.sem u) (sym c.index.ensures) (at.counted.units.each c.args.sem c.index.result.now below) in
    let max = ap (λ (ms : List ℕ). get_or ms c.args.sem 0) c.sems.ensures.rows in
    rw (← c.self.view_is) (λ unit. omega (arith, count.taken, count.back, max, c.has_unit.ensures.0 unit), λ unit. c.has_unit.ensures.1 (omega (arith, count.taken, count.back, max, unit)))
