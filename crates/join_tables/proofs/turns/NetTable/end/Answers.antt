use Rattle.std.proofs.Common.{◌≡◌, None, ◌++◌, sym, ap, ◌∙◌, subst}
use Rattle.join_words.specs.declared.ins.Ins.{Ins}
use Rattle.join_words.specs.Ins.{parts_of}
use Rattle.table_steps.specs.OneJournal.{AreInOneJournal}
use Rattle.table_steps.specs.Values.{Knows, values_in}
use Rattle.table_steps.specs.inside.Kinds.{IsTurn, with_end_drawn}
use Rattle.table_steps.proofs.Values.{knows_again, knows_both}
use Rattle.join_tables.specs.Parts.{parts_in}
use Rattle.join_tables.specs.Inputs.{parts_found}
use Rattle.join_tables.specs.Shares.{SharedState}
use Rattle.join_tables.specs.States.{TableState, RunningState}
use Rattle.join_tables.specs.Keeping.{entries_of, with_places}
use Rattle.join_tables.specs.declared.fates.Fate.TheVariants.{Ended}
use Rattle.join_tables.specs.declared.turns.EndedStart.{EndedStart}
use Rattle.join_tables.specs.inside.Recording.{tellings}
use Rattle.join_tables.specs.inside.Seated.{owing_view, shares_of, units_of}
use Rattle.join_tables.proofs.Drawn.{told_in_one, end_view, owing_turn, owing_told}
use Rattle.join_tables.proofs.turns.NetTable.end.Goals as goal

pub invariant_of-result : goal.invariant_of-result
invariant_of-result g c =
    let s = shares_of c.running.inside.seat.me.0 in let units = s.granted ++ s.both in
    let ended : EndedStart _ = record { task = c.running.inside.task; cause = c.running.inside.cause; start = c.running.inside.place; found = c.without_values-found.result; value = c.value.inside.value; place = c.draw_end-place.result; gives = c.args.gives; inner = c.args.inner } in
    let parts : ended.found.parts ≡ parts_found c.running.inside.inputs = c.without_values-found.result.same ∙ ap parts_in c.without_values-found.ensures in
    let none : s.refused ≡ None = ap (λ (r : RunningState _). r.units.refused) c.running.view_is ∙ c.requires.claims.not_refused in
    let drawn : c.draw_end-place.new.seat.me.0 ≡ owing_view ended c.args.gives units =
    c.draw_end-place.ensures.view.0 ∙ ap (with_end_drawn c.args.gives c.args.inner c.draw_end-place.result) (ap (λ m. m.0) c.running.invariant.0) ∙ end_view ended s (parts_found c.running.inside.inputs) parts none in
    let view = c.learn.ensures.view.0 ∙ drawn in
    let found = subst (λ (ins : Ins _). Knows c.draw_end-place.new.seat.values (values_in (parts_of ins))) (sym c.without_values-found.ensures) (knows_again _ _ _ c.draw_end-place.ensures.known c.running.invariant.1) in
    let size = ap (λ (s : SharedState _). s.edges) c.value.view_is ∙ c.requires.shares in
    ((λ i. ((view ∙ ap (owing_view ended c.args.gives) (sym (ap units_of view))) i, (c.learn.ensures.view.1 ∙ c.draw_end-place.ensures.view.1 ∙ ap (λ m. m.1) c.running.invariant.0) i)), knows_again _ _ _ c.learn.ensures.known (knows_both _ _ _ c.draw_end-place.ensures.ended found), size, c.value.invariant)

pub returns-clause-journal : goal.returns-clause-journal
returns-clause-journal g c =
    let s = shares_of c.running.inside.seat.me.0 in let units = s.granted ++ s.both in
    let ended : EndedStart _ = record { task = c.running.inside.task; cause = c.running.inside.cause; start = c.running.inside.place; found = c.without_values-found.result; value = c.value.inside.value; place = c.draw_end-place.result; gives = c.args.gives; inner = c.args.inner } in
    let parts : ended.found.parts ≡ parts_found c.running.inside.inputs = c.without_values-found.result.same ∙ ap parts_in c.without_values-found.ensures in
    let none : s.refused ≡ None = ap (λ (r : RunningState _). r.units.refused) c.running.view_is ∙ c.requires.claims.not_refused in
    let drawn : c.draw_end-place.new.seat.me.0 ≡ owing_view ended c.args.gives units =
    c.draw_end-place.ensures.view.0 ∙ ap (with_end_drawn c.args.gives c.args.inner c.draw_end-place.result) (ap (λ m. m.0) c.running.invariant.0) ∙ end_view ended s (parts_found c.running.inside.inputs) parts none in
    subst (λ (s : TableState). AreInOneJournal s.net s.limit (with_places (entries_of (Ended ended)))) c.self.view_is
    (told_in_one _ _ c.draw_end-place.new.seat.me.0 (entries_of (Ended ended)) (ap tellings drawn ∙ owing_told ended c.args.gives units) c.learn.ensures.journal)
