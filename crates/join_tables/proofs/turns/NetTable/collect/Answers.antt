use Rattle.std.proofs.Common.{sym, ap, ◌∙◌, subst}
use Rattle.join_tables.proofs.CollectNext.{IsLastStep, last_has_all}
use Rattle.join_tables.proofs.turns.NetTable.collect.Goals.{in-NoneLeft, in-Taken}
use Rattle.join_tables.proofs.turns.NetTable.collect.Goals as goal

pub invariant_of-turn : goal.invariant_of-turn
invariant_of-turn g c =
    let last : IsLastStep c.collect_one.result = elim c.match-collect_one.branch [ in-NoneLeft w ↦ subst IsLastStep (sym w.in-NoneLeft.is) tt | in-Taken w ↦ subst IsLastStep (sym w.in-Taken.is) (sym (ap (λ m. m.1) w.made-is) ∙ c.if-not-is_last.false) ] in
    let all = last_has_all _ _ _ _ _ _ _ _ _ _ _ c.collecting.invariant.2 last c.collect_one.ensures.step in
    ((λ i. (all.view i, c.collect_one.ensures.home i)), all.count, c.collect_one.ensures.known)

pub invariant_of-turn-in-None : goal.invariant_of-turn-in-None
invariant_of-turn-in-None g c =
    let last : IsLastStep c.collect_one.result = elim c.match-collect_one.branch [ in-NoneLeft w ↦ subst IsLastStep (sym w.in-NoneLeft.is) tt | in-Taken w ↦ subst IsLastStep (sym w.in-Taken.is) (sym (ap (λ m. m.1) w.made-is) ∙ c.if-not-is_last.false) ] in
    let all = last_has_all _ _ _ _ _ _ _ _ _ _ _ c.collecting.invariant.2 last c.collect_one.ensures.step in
    ((λ i. (all.view i, c.collect_one.ensures.home i)), all.count, c.collect_one.ensures.known)
