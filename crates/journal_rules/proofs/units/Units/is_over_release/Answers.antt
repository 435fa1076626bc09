use Rattle.std.proofs.Common.{sym, subst, ◌∙◌}
use Rattle.std.proofs.lemmas.Bool.{false≢true}
use Rattle.journal_rules.specs.declared.units.UnitCount.{UnitCount}
use Rattle.journal_rules.specs.inside.Units.{CountsUnit, no_units}
use Rattle.journal_rules.proofs.UnitLaws.{over_is}
use Rattle.journal_rules.proofs.units.Units.is_over_release.Goals as goal

pub returns-then-is_listed : goal.returns-then-is_listed
returns-then-is_listed c = λ journal counts started.
    let count = subst (λ (u : UnitCount). CountsUnit c.args.net.now journal c.args.sem u) (sym c.index.ensures) (counts.each c.args.sem c.index.result.now c.requires.sem) in
    let law = over_is c.args.net.now c.args.sem c.args.place c.args.task _ journal c.index.result.now c.is_listed.result c.task_row.ensures count started (rw c.as_slice.ensures at c.is_listed.ensures) in
    (λ found. law.0 c.if-is_listed.true (c.was_over.ensures.0 found), λ over. c.was_over.ensures.1 (law.1 over).1)

pub returns-else-is_listed : goal.returns-else-is_listed
returns-else-is_listed c = λ journal counts started.
    let law = over_is c.args.net.now c.args.sem c.args.place c.args.task _ journal _ c.is_listed.result c.task_row.ensures (counts.each c.args.sem no_units c.requires.sem) started (rw c.as_slice.ensures at c.is_listed.ensures) in
    (λ found. absurd (false≢true (sym c.if-is_listed.false ∙ found)), λ over. (law.1 over).0)
