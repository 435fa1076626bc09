use Rattle.std.proofs.Common.{◌≡◌, ◌∷◌, ◌++◌, [], length, sym, ap, ◌∙◌, subst, arith}
use Rattle.std.specs.Option.{option_map_or}
use Rattle.std.proofs.lemmas.List.{length_push}
use Rattle.table_steps.specs.inside.Kinds.{left_by}
use Rattle.table_steps.proofs.Values.{knows_again}
use Rattle.table_steps.specs.Values.{Knows}
use Rattle.join_tables.specs.Values.{values_known}
use Rattle.join_tables.specs.Keeping.{entries_told}
use Rattle.join_tables.specs.inside.Seated.{IsSpent}
use Rattle.join_tables.proofs.Knowing.{knows_all, knows_one, knows_batch}
use Rattle.join_tables.proofs.Recordings.{spent_more}
use Rattle.join_tables.proofs.RestViews.{some_map}
use Rattle.join_tables.proofs.turns.NetTable.gather.Goals as goal

pub invariant_of-batch : goal.invariant_of-batch
invariant_of-batch g c =
    let fates = c.batch.inside.fates.items in let fate = c.spent.inside.fate in let seat = c.batch.inside.seat in let now = c.join_batch-seat.result in
    let is : c.push_reserved.new.self.items ≡ fates ++ fate ∷ [] = c.push_reserved.ensures.items in
    let taken : c.take.result ≡ seat = c.take.ensures.value in
    let spent = spent_more (λ s. s.me.0) seat fates fate c.spent.inside.seat.me.0 (some_map seat c.batch.invariant.0 (λ s h. h.0)) c.batch.invariant.1 c.spent.invariant.0 in
    let view = ap (λ m. m.0) c.join_batch-seat.ensures.view in
    let before = knows_batch (λ s. s.values) seat fates c.batch.invariant.1 (some_map seat c.batch.invariant.0 (λ s h. h.2)) in
    let known = knows_all now.values fates (fate ∷ []) (knows_again _ _ _ (subst (λ o. Knows now.values (option_map_or (λ s. s.values) o [])) taken c.join_batch-seat.ensures.known.0) before) (knows_one now.values fate (knows_again _ _ _ c.join_batch-seat.ensures.known.1 c.spent.invariant.2)) in
    let whole = subst (λ v. IsSpent (entries_told (fates ++ fate ∷ [])) v) (sym (view ∙ ap (λ o. c.spent.inside.seat.me.0 ++ option_map_or (λ s. left_by s.me.0) o []) taken)) spent in
    ((subst (λ fs. IsSpent (entries_told fs) now.me.0) (sym is) whole, ap (λ m. m.1) c.join_batch-seat.ensures.view, subst (λ fs. Knows now.values (values_known fs)) (sym is) known, (λ none. absurd (omega (arith, ap length none, ap length is, length_push fates fate)))), tt)
