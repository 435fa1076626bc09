use Rattle.std.proofs.Common.{rules, ◌≡◌, ◌++◌, [], sym, ap, ◌∙◌, subst}
use Rattle.std.specs.Option.{option_map_or}
use Rattle.table_steps.specs.inside.Kinds.{left_by}
use Rattle.table_steps.proofs.Values.{knows_again}
use Rattle.table_steps.specs.Values.{Knows}
use Rattle.join_tables.specs.Values.{values_known}
use Rattle.join_tables.specs.Keeping.{entries_told}
use Rattle.join_tables.specs.inside.Seated.{IsSpent}
use Rattle.join_tables.proofs.Knowing.{knows_all, knows_batch}
use Rattle.join_tables.proofs.Recordings.{spent_all, not_empty}
use Rattle.join_tables.proofs.RestViews.{held_in, some_map}
use Rattle.join_tables.proofs.turns.NetTable.gather_all.Goals as goal

pub invariant_of-batch-2 : goal.invariant_of-batch-2
invariant_of-batch-2 g c =
    let fates = c.batch.inside.fates.items in let more = c.more.inside.fates.items in let seat = c.batch.inside.seat in let own = c.in-Some.own in let now = c.join_batch-seat.result in
    let held = held_in _ c.more.inside.seat own c.more.invariant.0 (sym c.take.ensures.value ∙ c.in-Some.is) in
    let is : c.append.new.self.items ≡ fates ++ more = search rules in
    let taken : c.take-2.result ≡ seat = c.take-2.ensures.value in
    let spent = spent_all (λ s. s.me.0) seat fates more own.me.0 (some_map seat c.batch.invariant.0 (λ s h. h.0)) c.batch.invariant.1 held.0 in
    let view = ap (λ m. m.0) c.join_batch-seat.ensures.view in
    let before = knows_batch (λ s. s.values) seat fates c.batch.invariant.1 (some_map seat c.batch.invariant.0 (λ s h. h.2)) in
    let known = knows_all now.values fates more (knows_again _ _ _ (subst (λ o. Knows now.values (option_map_or (λ s. s.values) o [])) taken c.join_batch-seat.ensures.known.0) before) (knows_again _ _ _ c.join_batch-seat.ensures.known.1 held.2) in
    let whole = subst (λ v. IsSpent (entries_told (fates ++ more)) v) (sym (view ∙ ap (λ o. own.me.0 ++ option_map_or (λ s. left_by s.me.0) o []) taken)) spent in
    ((subst (λ fs. IsSpent (entries_told fs) now.me.0) (sym is) whole, ap (λ m. m.1) c.join_batch-seat.ensures.view, subst (λ fs. Knows now.values (values_known fs)) (sym is) known, (λ empty. not_empty fates more held.3 (sym is ∙ empty))), tt)
