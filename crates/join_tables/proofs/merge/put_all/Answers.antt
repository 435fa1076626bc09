use Rattle.std.proofs.Common.{rules, ◌≡◌, ◌<◌, ◌∷◌, length, sym, ap, ◌∙◌, subst}
use Rattle.std.specs.List.{AllByRecursion}
use Rattle.std.specs.Vec.Iter.{into_iter_items}
use Rattle.join_tables.specs.inside.Merging.{fate_rows, all_rows, placed}
use Rattle.join_tables.proofs.Merging.{below_both, placed_both, placed_size}
use Rattle.join_tables.proofs.merge.put_all.Goals as goal

pub put-requires : goal.put-requires
put-requires g c =
    let items : into_iter_items c.loop-fate.fate-iterator ≡ c.in-Some.fate ∷ into_iter_items c.next.new.self = search rules in
    (below_both (length c.loop-fate.places.items) (fate_rows c.in-Some.fate) (all_rows (into_iter_items c.next.new.self)) (subst (λ fs. AllByRecursion (λ x. x.0 < length c.loop-fate.places.items) (all_rows fs)) items c.loop-fate.invariant.1)).0

pub loop-fate-preserved : goal.loop-fate-preserved
loop-fate-preserved g c =
    let items : into_iter_items c.loop-fate.fate-iterator ≡ c.in-Some.fate ∷ into_iter_items c.next.new.self = search rules in
    let rest = all_rows (into_iter_items c.next.new.self) in let places = c.loop-fate.places.items in
    let below = below_both (length places) (fate_rows c.in-Some.fate) rest (subst (λ fs. AllByRecursion (λ x. x.0 < length places) (all_rows fs)) items c.loop-fate.invariant.1) in
    (ap (placed rest) c.put.ensures ∙ sym (placed_both (fate_rows c.in-Some.fate) rest places) ∙ ap (λ fs. placed (all_rows fs) places) (sym items) ∙ c.loop-fate.invariant.0, subst (λ n. AllByRecursion (λ x. x.0 < n) rest) (sym (ap length c.put.ensures ∙ placed_size (fate_rows c.in-Some.fate) places)) below.1)
