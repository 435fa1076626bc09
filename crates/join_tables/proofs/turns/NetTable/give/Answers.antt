use Rattle.std.proofs.Common.{rules, ◌≡◌, [], ◌+◌, Some, None, sym, refl, ap, ◌∙◌, subst, length, arith}
use Rattle.std.specs.Prelude.{slice_get, drop}
use Rattle.std.specs.Arc.{arc_value}
use Rattle.table_steps.specs.Values.{ended_with}
use Rattle.table_steps.proofs.Values.{knows_again, knows_front}
use Rattle.join_tables.specs.States.{OwingState}
use Rattle.join_tables.specs.Keeping.{entries_of}
use Rattle.join_tables.specs.inside.Seated.{owing_view, units_of, IsSpent, paid, OwesFirst}
use Rattle.join_tables.specs.declared.fates.Fate.TheVariants.{Ended}
use Rattle.join_tables.specs.inside.Sharing.{count_in}
use Rattle.join_tables.proofs.Turning.{owes_first, paid_view, drop_some, drop_none, get_below, gives_none, gives_on, gives_more}
use Rattle.join_tables.proofs.turns.NetTable.give.Goals as goal

pub invariant_of-result : goal.invariant_of-result
invariant_of-result g c =
    let units : units_of c.owing.inside.seat.me.0 ≡ [] = ap (λ (o : OwingState _). o.units) c.owing.view_is ∙ c.requires.no_unit in
    let none : slice_get c.owing.inside.ended.gives c.owing.inside.next ≡ None = search rules in
    (subst (λ v. IsSpent (entries_of (Ended c.owing.inside.ended)) v) (sym (ap (λ m. m.0) c.owing.invariant.0 ∙ (λ i. owing_view c.owing.inside.ended (drop_none c.owing.inside.ended.gives c.owing.inside.next none i) (units i)))) (refl, refl), ap (λ m. m.1) c.owing.invariant.0, c.owing.invariant.1)

pub returns-in_default : goal.returns-in_default
returns-in_default g c =
    let none : slice_get c.owing.inside.ended.gives c.owing.inside.next ≡ None = search rules in
    gives_none c.args.self.now.net c.args.owing c.args.owing.left _ (sym (ap (λ (o : OwingState _). o.left) c.owing.view_is) ∙ drop_none c.owing.inside.ended.gives c.owing.inside.next none) (search rules)

pub give_edge-made-requires-clause-ready : goal.give_edge-made-requires-clause-ready
give_edge-made-requires-clause-ready g c =
    let some : slice_get c.owing.inside.ended.gives c.owing.inside.next ≡ Some c.in-Some.edge = search rules in
    subst (λ v. OwesFirst c.in-Some.edge c.owing.inside.ended.place v) (sym (ap (λ m. m.0) c.owing.invariant.0 ∙ ap (λ es. owing_view c.owing.inside.ended es (units_of c.owing.inside.seat.me.0)) (drop_some c.owing.inside.ended.gives c.owing.inside.next c.in-Some.edge some))) (owes_first c.owing.inside.ended c.in-Some.edge (drop (c.owing.inside.next + 1) c.owing.inside.ended.gives) (units_of c.owing.inside.seat.me.0))

pub give_edge-made-requires-clause-some : goal.give_edge-made-requires-clause-some
give_edge-made-requires-clause-some g c =
    let some : slice_get c.owing.inside.ended.gives c.owing.inside.next ≡ Some c.in-Some.edge = search rules in
    omega (arith, c.owing.invariant.2, ap length (drop_some c.owing.inside.ended.gives c.owing.inside.next c.in-Some.edge some))

pub give_edge-made-requires-clause-knows : goal.give_edge-made-requires-clause-knows
give_edge-made-requires-clause-knows g c = record {
  value = arc_value c.owing.inside.ended.value;
  are = c.owing.invariant.3;
  knows = knows_front _ (ended_with c.owing.inside.ended.place (arc_value c.owing.inside.ended.value)) _ c.owing.invariant.1;
}

pub overflow_add-owing : goal.overflow_add-owing
overflow_add-owing g c =
    let some : slice_get c.owing.inside.ended.gives c.owing.inside.next ≡ Some c.in-Some.edge = search rules in
    let below = get_below c.owing.inside.ended.gives c.owing.inside.next c.in-Some.edge some in search rules

pub invariant_of-owing : goal.invariant_of-owing
invariant_of-owing g c =
    let some : slice_get c.owing.inside.ended.gives c.owing.inside.next ≡ Some c.in-Some.edge = search rules in
    let size : count_in c.owing.inside.shares ≡ length (drop (c.owing.inside.next + 1) c.owing.inside.ended.gives) + 1 = omega (arith, c.owing.invariant.2, ap length (drop_some c.owing.inside.ended.gives c.owing.inside.next c.in-Some.edge some)) in
    let view = ap (λ m. m.0) c.give_edge-made.ensures.view ∙ ap paid (ap (λ m. m.0) c.owing.invariant.0 ∙ ap (λ es. owing_view c.owing.inside.ended es (units_of c.owing.inside.seat.me.0)) (drop_some c.owing.inside.ended.gives c.owing.inside.next c.in-Some.edge some)) ∙ paid_view c.owing.inside.ended c.in-Some.edge (drop (c.owing.inside.next + 1) c.owing.inside.ended.gives) (units_of c.owing.inside.seat.me.0) in
    ((λ i. ((view ∙ ap (owing_view c.owing.inside.ended (drop (c.owing.inside.next + 1) c.owing.inside.ended.gives)) (sym (ap units_of view))) i, ap (λ m. m.1) c.give_edge-made.ensures.view i)), knows_again _ _ _ c.give_edge-made.ensures.known c.owing.invariant.1, omega (arith, size, c.give_edge-made.ensures.shares.count), c.give_edge-made.ensures.shares.shares _ c.owing.invariant.3)

pub invariant_of-owing-in-None : goal.invariant_of-owing-in-None
invariant_of-owing-in-None g c =
    let some : slice_get c.owing.inside.ended.gives c.owing.inside.next ≡ Some c.in-Some.edge = search rules in
    let size : count_in c.owing.inside.shares ≡ length (drop (c.owing.inside.next + 1) c.owing.inside.ended.gives) + 1 = omega (arith, c.owing.invariant.2, ap length (drop_some c.owing.inside.ended.gives c.owing.inside.next c.in-Some.edge some)) in
    let view = ap (λ m. m.0) c.give_edge-made.ensures.view ∙ ap paid (ap (λ m. m.0) c.owing.invariant.0 ∙ ap (λ es. owing_view c.owing.inside.ended es (units_of c.owing.inside.seat.me.0)) (drop_some c.owing.inside.ended.gives c.owing.inside.next c.in-Some.edge some)) ∙ paid_view c.owing.inside.ended c.in-Some.edge (drop (c.owing.inside.next + 1) c.owing.inside.ended.gives) (units_of c.owing.inside.seat.me.0) in
    ((λ i. ((view ∙ ap (owing_view c.owing.inside.ended (drop (c.owing.inside.next + 1) c.owing.inside.ended.gives)) (sym (ap units_of view))) i, ap (λ m. m.1) c.give_edge-made.ensures.view i)), knows_again _ _ _ c.give_edge-made.ensures.known c.owing.invariant.1, omega (arith, size, c.give_edge-made.ensures.shares.count), c.give_edge-made.ensures.shares.shares _ c.owing.invariant.3)

pub returns-in-Some-made : goal.returns-in-Some-made
returns-in-Some-made g c =
    let some : slice_get c.owing.inside.ended.gives c.owing.inside.next ≡ Some c.in-Some.edge = search rules in
    gives_more c.args.self.now.net c.args.owing c.in-Some.edge c.args.owing.left (drop (c.owing.inside.next + 1) c.owing.inside.ended.gives) _ _ (sym (ap (λ (o : OwingState _). o.left) c.owing.view_is) ∙ drop_some c.owing.inside.ended.gives c.owing.inside.next c.in-Some.edge some) (search rules) (search rules) (search rules)

pub returns-in-None : goal.returns-in-None
returns-in-None g c =
    let some : slice_get c.owing.inside.ended.gives c.owing.inside.next ≡ Some c.in-Some.edge = search rules in
    gives_on c.args.self.now.net c.args.owing c.in-Some.edge c.args.owing.left (drop (c.owing.inside.next + 1) c.owing.inside.ended.gives) _ (sym (ap (λ (o : OwingState _). o.left) c.owing.view_is) ∙ drop_some c.owing.inside.ended.gives c.owing.inside.next c.in-Some.edge some) (search rules) (search rules)
