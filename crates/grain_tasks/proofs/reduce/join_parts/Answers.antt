use Rattle.std.proofs.Common.{◌≡◌, ◌∙◌, IfOk, ap, map, sym, subst}
use Rattle.grain_tasks.specs.Folds.{joined}
use Rattle.grain_tasks.specs.inside.Folding.{AreAllowed, value_in}
use Rattle.grain_tasks.proofs.ReduceLemmas.{sorted_allowed, sorted_joined}
use Rattle.grain_tasks.proofs.reduce.join_parts.Goals as goal

pub join_in_order-requires : goal.join_in_order-requires
join_in_order-requires g c =
    subst (AreAllowed g.F.Fold.folding c.args.fold.now) (sym c.as_slice.ensures.value)
    (sorted_allowed g.F.Fold.folding c.args.fold.now c.args.count c.args.parts.items c.sort_parts.new.parts.items (g.met.F.Fold.lawful c.args.fold.now) c.requires.within c.requires.folded c.in_ok-sort_parts.ensures.same)

pub returns : goal.returns
returns g c =
    subst (λ x. IfOk c.join_in_order.result (λ v. v ≡ x))
    (ap (λ ps. joined g.F.Fold.folding c.args.fold.now (map value_in ps)) c.as_slice.ensures.value
    ∙ sorted_joined g.F.Fold.folding c.args.fold.now c.args.count c.args.parts.items c.sort_parts.new.parts.items (g.met.F.Fold.lawful c.args.fold.now) c.requires.within c.requires.folded c.requires.whole c.in_ok-sort_parts.ensures.same c.in_ok-sort_parts.ensures.sorted)
    c.join_in_order.ensures
