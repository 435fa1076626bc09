use Rattle.std.proofs.Common.{rules, ◌≢◌, None, map, reverse, sym, ap, ◌∙◌, subst}
use Rattle.std.specs.Prelude.{[]}
use Rattle.std.specs.Option.{option_map_or}
use Rattle.std.specs.Arc.{arc_value}
use Rattle.table_steps.specs.inside.RestKinds.{bare_part}
use Rattle.table_steps.proofs.Values.{knows_again}
use Rattle.join_tables.specs.Inputs.{parts_found}
use Rattle.join_tables.specs.RestStates.{RestState}
use Rattle.join_tables.specs.inside.Resting.{alone_in, HoldsParts, IsRestView}
use Rattle.join_tables.proofs.RestViews.{held_in, may_ask, asked_view}
use Rattle.join_tables.proofs.turns.NetTable.rest_full.Goals as goal

pub load_units-found-requires-clause-ready : goal.load_units-found-requires-clause-ready
load_units-found-requires-clause-ready g c =
    let holds = held_in _ c.rest.inside.seat c.in-Some.seat c.rest.invariant.0 c.in-Some.is in
    let known : alone_in c.in-Some.seat.me.0 ≢ None = λ none. c.requires.alone (sym (ap (λ (r : RestState). r.alone) c.rest.view_is) ∙ ap (λ o. alone_in (option_map_or (λ s. s.me.0) o [])) c.in-Some.is ∙ none) in
    may_ask (arc_value c.self.inside.words.net) c.args.sem c.rest.inside.turns.items c.rest.inside.drops.items c.in-Some.seat.me.0 holds.0 known holds.2 (search rules)

pub invariant_of-rest : goal.invariant_of-rest
invariant_of-rest g c =
    let turns = c.rest.inside.turns.items in let drops = c.rest.inside.drops.items in let v = c.in-Some.seat.me.0 in
    let holds = held_in _ c.rest.inside.seat c.in-Some.seat c.rest.invariant.0 c.in-Some.is in
    let some_there : alone_in v ≢ None = λ none. c.requires.alone (sym (ap (λ (r : RestState). r.alone) c.rest.view_is) ∙ ap (λ o. alone_in (option_map_or (λ s. s.me.0) o [])) c.in-Some.is ∙ none) in
    let a = asked_view (arc_value c.self.inside.words.net) c.args.sem c.load_units-found.result turns drops v holds.0 some_there in
    let is = c.load_units-found.ensures.view.0 in
    let parts_are = subst (λ b. HoldsParts (reverse (map parts_found c.rest.inside.parts.items)) b) (sym (ap bare_part is ∙ a.bare)) holds.3 in
    let known = knows_again _ _ _ c.load_units-found.ensures.known (held_in _ c.rest.inside.seat c.in-Some.seat c.rest.invariant.7 c.in-Some.is) in
    ((subst (λ u. IsRestView turns drops u) (sym is) a.rest, c.load_units-found.ensures.view.1 ∙ holds.1, holds.2, parts_are), tt, c.rest.invariant.2, c.rest.invariant.3, c.rest.invariant.4, c.rest.invariant.5, c.rest.invariant.6, known)

pub invariant_of-rest-else-found-from : goal.invariant_of-rest-else-found-from
invariant_of-rest-else-found-from g c =
    let turns = c.rest.inside.turns.items in let drops = c.rest.inside.drops.items in let v = c.in-Some.seat.me.0 in
    let holds = held_in _ c.rest.inside.seat c.in-Some.seat c.rest.invariant.0 c.in-Some.is in
    let some_there : alone_in v ≢ None = λ none. c.requires.alone (sym (ap (λ (r : RestState). r.alone) c.rest.view_is) ∙ ap (λ o. alone_in (option_map_or (λ s. s.me.0) o [])) c.in-Some.is ∙ none) in
    let a = asked_view (arc_value c.self.inside.words.net) c.args.sem c.load_units-found.result turns drops v holds.0 some_there in
    let is = c.load_units-found.ensures.view.0 in
    let parts_are = subst (λ b. HoldsParts (reverse (map parts_found c.rest.inside.parts.items)) b) (sym (ap bare_part is ∙ a.bare)) holds.3 in
    let known = knows_again _ _ _ c.load_units-found.ensures.known (held_in _ c.rest.inside.seat c.in-Some.seat c.rest.invariant.7 c.in-Some.is) in
    ((subst (λ u. IsRestView turns drops u) (sym is) a.rest, c.load_units-found.ensures.view.1 ∙ holds.1, holds.2, parts_are), tt, c.rest.invariant.2, c.rest.invariant.3, c.rest.invariant.4, c.rest.invariant.5, c.rest.invariant.6, known)
