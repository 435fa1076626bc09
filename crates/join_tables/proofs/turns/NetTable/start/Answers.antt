use Rattle.std.proofs.Common.{rules, ◌≡◌, [], ◌∷◌, length, subst, sym, ap, ◌∙◌}
use Rattle.std.proofs.lemmas.List.{append-nil}
use Rattle.std.specs.Arc.{arc_value}
use Rattle.task_graph.specs.NetRows.{NetRows}
use Rattle.task_graph.specs.Net.{IsNet}
use Rattle.journal_rules.specs.DataRule.{edges_of}
use Rattle.table_steps.specs.OneJournal.{AreInOneJournal}
use Rattle.table_steps.specs.Releases.{MayBeReleased}
use Rattle.table_steps.specs.inside.Accounts.{AllFitNotes}
use Rattle.table_steps.specs.inside.Kinds.{IsTurn, MayDrawStart, with_start_drawn}
use Rattle.table_steps.specs.Holding.{HoldsEachUnit, PutsAll}
use Rattle.table_steps.proofs.Values.{knows_again}
use Rattle.join_tables.specs.Inputs.{parts_found}
use Rattle.join_tables.specs.States.{TableState, AdmittedState}
use Rattle.join_tables.specs.Keeping.{start_of, with_places}
use Rattle.join_tables.specs.inside.Recording.{tellings}
use Rattle.join_tables.specs.Claims.{BeginsUnits, HasAllUnits}
use Rattle.join_tables.specs.inside.Seated.{UnitShares, taken_in, held_of, shares_of, units_in}
use Rattle.join_tables.proofs.Drawn.{told_in_one, running_turn, running_told}
use Rattle.join_tables.proofs.Lones.{ticket_turn}
use Rattle.join_tables.proofs.RunViews.{start_reads, may_start, begins_units, has_all_units}
use Rattle.join_tables.proofs.turns.NetTable.start.Goals as goal

pub returns-clause-units : goal.returns-clause-units
returns-clause-units g c =
    let v = c.ticket.inside.seat.me.0 in let u = c.learn-2.new.seat.me.0 in let net = arc_value c.self.inside.words.net in
    let rows : IsNet net = c.draw_start-place.ensures.net in
    let net_is : net ≡ c.args.self.now.net = search rules in
    let holds : HoldsEachUnit net c.ticket.inside.task (held_of v) =
    subst (λ (n : NetRows). HoldsEachUnit n c.ticket.inside.task (held_of v)) (sym net_is) (subst (λ (a : AdmittedState). HoldsEachUnit c.args.self.now.net a.task a.held) (sym c.ticket.view_is) c.requires.units) in
    let r = start_reads net c.ticket.inside.task c.ticket.inside.cause (parts_found c.ticket.inside.inputs) c.draw_start-place.result v u (ap (λ m. m.0) c.ticket.invariant.0) c.ticket.invariant.1 (c.learn-2.ensures.view.0 ∙ c.draw_start-place.ensures.view.0 ∙ ap (with_start_drawn net c.draw_start-place.result) c.learn.ensures.view.0) in
    subst (λ (n : NetRows). BeginsUnits n c.args.ticket.task (units_in (shares_of u))) net_is
    (subst (λ (a : AdmittedState). BeginsUnits net a.task (units_in (shares_of u))) c.ticket.view_is
    (subst (λ (s : UnitShares). BeginsUnits net c.ticket.inside.task (units_in s)) (sym r.shares) (begins_units net c.ticket.inside.task (held_of v) rows holds)))

pub returns-clause-same : goal.returns-clause-same
returns-clause-same g c same =
    let v = c.ticket.inside.seat.me.0 in let u = c.learn-2.new.seat.me.0 in let net = arc_value c.self.inside.words.net in
    let net_is : net ≡ c.args.self.now.net = search rules in
    let holds : HoldsEachUnit net c.ticket.inside.task (held_of v) =
    subst (λ (n : NetRows). HoldsEachUnit n c.ticket.inside.task (held_of v)) (sym net_is) (subst (λ (a : AdmittedState). HoldsEachUnit c.args.self.now.net a.task a.held) (sym c.ticket.view_is) c.requires.units) in
    let puts : PutsAll net c.ticket.inside.task = subst (λ (n : NetRows). PutsAll n c.ticket.inside.task) (sym net_is) (subst (λ (a : AdmittedState). PutsAll c.args.self.now.net a.task) (sym c.ticket.view_is) same) in
    let r = start_reads net c.ticket.inside.task c.ticket.inside.cause (parts_found c.ticket.inside.inputs) c.draw_start-place.result v u (ap (λ m. m.0) c.ticket.invariant.0) c.ticket.invariant.1 (c.learn-2.ensures.view.0 ∙ c.draw_start-place.ensures.view.0 ∙ ap (with_start_drawn net c.draw_start-place.result) c.learn.ensures.view.0) in
    subst (λ (n : NetRows). HasAllUnits n c.args.ticket.task c.args.ticket.held (units_in (shares_of u))) net_is
    (subst (λ (a : AdmittedState). HasAllUnits net a.task a.held (units_in (shares_of u))) c.ticket.view_is
    (subst (λ (s : UnitShares). HasAllUnits net c.ticket.inside.task (held_of v) (units_in s)) (sym r.shares) (has_all_units net c.ticket.inside.task (held_of v) holds puts)))

pub draw_start-place-requires-clause-ready : goal.draw_start-place-requires-clause-ready
draw_start-place-requires-clause-ready g c =
    let v = c.ticket.inside.seat.me.0 in let net = arc_value c.self.inside.words.net in
    let net_is : net ≡ c.args.self.now.net = search rules in
    let holds : HoldsEachUnit net c.ticket.inside.task (held_of v) =
    subst (λ (n : NetRows). HoldsEachUnit n c.ticket.inside.task (held_of v)) (sym net_is) (subst (λ (a : AdmittedState). HoldsEachUnit c.args.self.now.net a.task a.held) (sym c.ticket.view_is) c.requires.units) in
    subst (λ w. MayDrawStart net w) (sym c.learn.ensures.view.0) (may_start net c.ticket.inside.task c.ticket.inside.cause (parts_found c.ticket.inside.inputs) v (ap (λ m. m.0) c.ticket.invariant.0) c.ticket.invariant.1 holds)

pub invariant_of-result : goal.invariant_of-result
invariant_of-result g c =
    let v = c.ticket.inside.seat.me.0 in let u = c.learn-2.new.seat.me.0 in let net = arc_value c.self.inside.words.net in
    let r = start_reads net c.ticket.inside.task c.ticket.inside.cause (parts_found c.ticket.inside.inputs) c.draw_start-place.result v u (ap (λ m. m.0) c.ticket.invariant.0) c.ticket.invariant.1 (c.learn-2.ensures.view.0 ∙ c.draw_start-place.ensures.view.0 ∙ ap (with_start_drawn net c.draw_start-place.result) c.learn.ensures.view.0) in
    ((λ i. (r.is i, (c.learn-2.ensures.view.1 ∙ c.draw_start-place.ensures.view.1 ∙ c.learn.ensures.view.1 ∙ ap (λ m. m.1) c.ticket.invariant.0) i)), knows_again _ _ _ c.learn-2.ensures.known (knows_again _ _ _ c.draw_start-place.ensures.known (knows_again _ _ _ c.learn.ensures.known c.ticket.invariant.2)))

pub returns-clause-journal : goal.returns-clause-journal
returns-clause-journal g c =
    let v = c.ticket.inside.seat.me.0 in let u = c.draw_start-place.new.seat.me.0 in let net = arc_value c.self.inside.words.net in let limit = c.self.inside.words.table.shared.key.limit in
    let parts = parts_found c.ticket.inside.inputs in let place = c.draw_start-place.result in
    let r = start_reads net c.ticket.inside.task c.ticket.inside.cause parts place v u (ap (λ m. m.0) c.ticket.invariant.0) c.ticket.invariant.1 (c.draw_start-place.ensures.view.0 ∙ ap (with_start_drawn net place) c.learn.ensures.view.0) in
    let one = told_in_one net limit u (start_of place c.ticket.inside.task c.ticket.inside.cause parts ∷ []) (ap tellings r.is ∙ running_told c.ticket.inside.task c.ticket.inside.cause place parts (shares_of u)) c.learn-2.ensures.journal in
    subst (λ (s : TableState). AreInOneJournal s.net s.limit (with_places (start_of place c.args.ticket.task c.args.ticket.cause parts ∷ []))) c.self.view_is
    (subst (λ (a : AdmittedState). AreInOneJournal net limit (with_places (start_of place a.task a.cause parts ∷ []))) c.ticket.view_is one)

pub returns-clause-release : goal.returns-clause-release
returns-clause-release g c =
    let v = c.ticket.inside.seat.me.0 in let net = arc_value c.self.inside.words.net in
    let net_is : net ≡ c.args.self.now.net = search rules in
    let fits = subst (λ w. AllFitNotes net w) (ap (λ m. m.0) c.ticket.invariant.0) c.learn.ensures.fits in
    subst (λ (n : NetRows). MayBeReleased n c.args.ticket.task c.args.ticket.cause) net_is (subst (λ (a : AdmittedState). MayBeReleased net a.task a.cause) c.ticket.view_is fits.0.0)

pub returns-clause-parts : goal.returns-clause-parts
returns-clause-parts g c =
    let v = c.ticket.inside.seat.me.0 in let net = arc_value c.self.inside.words.net in
    let net_is : net ≡ c.args.self.now.net = search rules in
    let fits = subst (λ w. AllFitNotes net w) (ap (λ m. m.0) c.ticket.invariant.0) c.learn.ensures.fits in
    c.ticket.invariant.1 ∙ ap length (sym (append-nil (taken_in v)) ∙ fits.0.1) ∙ (λ i. length (edges_of (net_is i) (c.ticket.view_is i).task (c.ticket.view_is i).cause))
