use Rattle.std.proofs.Common.{sym, subst}
use Rattle.pitfall_check.specs.declared.way.Way.TheVariants.{StrongBack}
use Rattle.pitfall_check.specs.inside.MarkSpread.{IsSpread}
use Rattle.pitfall_check.specs.inside.Components.{AreComponentsUpTo}
use Rattle.pitfall_check.proofs.ComponentLemmas.{AreComponentsUpTo-next}
use Rattle.pitfall_check.proofs.components.number_component.Goals as goal

pub returns : goal.returns
returns c = λ before left next finished so_far.
    subst (λ component. AreComponentsUpTo c.args.net.now c.spread.new.marks component left) (sym next)
    (AreComponentsUpTo-next c.args.net.now c.args.components.now c.spread.new.marks before left c.args.root finished c.if-components-root-ne0.false so_far
    (subst (λ component. IsSpread StrongBack c.args.net.now c.args.root component c.args.components.now c.spread.new.marks) next c.in_ok-spread.ensures))
