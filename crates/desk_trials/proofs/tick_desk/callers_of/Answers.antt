use Rattle.std.proofs.Common.{◌∙◌}
use Rattle.desk_trials.proofs.TwoPasses.{removed}
use Rattle.desk_trials.proofs.tick_desk.callers_of.Goals as goal

pub returns-clause-first : goal.returns-clause-first
returns-clause-first c =
    let passes = c.in_ok-desk.ensures.passes in
    let at = removed c.in_ok-desk.field-0.passes.items c.remove-second.new.self.items c.remove-first.result c.remove-second.result (passes.count ∙ c.in_ok-desk.ensures.callers) c.remove-second.ensures.value c.remove-second.ensures.items c.remove-first.ensures.value in
    passes.each 0 c.remove-first.result at.0

pub returns-clause-second : goal.returns-clause-second
returns-clause-second c =
    let passes = c.in_ok-desk.ensures.passes in
    let at = removed c.in_ok-desk.field-0.passes.items c.remove-second.new.self.items c.remove-first.result c.remove-second.result (passes.count ∙ c.in_ok-desk.ensures.callers) c.remove-second.ensures.value c.remove-second.ensures.items c.remove-first.ensures.value in
    passes.each 1 c.remove-second.result at.1
