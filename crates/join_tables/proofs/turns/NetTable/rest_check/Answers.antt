use Rattle.std.proofs.Common.{map, rules, ◌≡◌, ◌≢◌, ◌↔◌, ◌∷◌, IsTrue, refl, not, true, false, Some, None, sym, ap, ◌∙◌, subst, ℕ, arith}
use Rattle.std.specs.Prelude.{[], length, ◌==◌}
use Rattle.std.proofs.lemmas.Bool.Decides.{nat_tests}
use Rattle.std.specs.Option.{option_map_or}
use Rattle.table_steps.proofs.Values.{knows_again}
use Rattle.join_tables.specs.Findings.{FindsTwo}
use Rattle.join_tables.specs.Inputs.{parts_found}
use Rattle.join_tables.specs.RestStates.{RestState, rest_with}
use Rattle.table_steps.specs.declared.view.SeatMark.TheVariants.{Alone}
use Rattle.table_steps.specs.declared.view.Note.TheVariants.{Has}
use Rattle.join_tables.specs.inside.Resting.{RestParts, alone_in, full_in, IsRestView}
use Rattle.table_steps.specs.inside.RestKinds.{MayLook, looked}
use Rattle.join_tables.proofs.RestViews.{looked_parts, held_in, none_full, may_check, found_all, found_other, may_look, looked_view}
use Rattle.join_tables.proofs.turns.NetTable.rest_check.Goals as goal

test_some : (n : ℕ) → not (n == 0) ≡ true → n ≢ 0
test_some n is = λ none. grind (arith, nat_tests, is, none)

test_none : (n : ℕ) → not (n == 0) ≡ false → n ≡ 0
test_none n is = grind (arith, nat_tests, is)

pub load_live-live-requires-clause-ready : goal.load_live-live-requires-clause-ready
load_live-live-requires-clause-ready g c =
    let turns = c.rest.inside.turns.items in let drops = c.rest.inside.drops.items in let v = c.in-Some.seat.me.0 in
    let holds = held_in _ c.rest.inside.seat c.in-Some.seat c.rest.invariant.0 c.in-Some.is in
    let none : alone_in v ≡ None = sym (ap (λ o. alone_in (option_map_or (λ s. s.me.0) o [])) c.in-Some.is) ∙ ap (λ (r : RestState). r.alone) c.rest.view_is ∙ c.requires.unknown in
    may_check turns drops v holds.0 none holds.2

pub invariant_of-rest : goal.invariant_of-rest
invariant_of-rest g c =
    let turns = c.rest.inside.turns.items in let drops = c.rest.inside.drops.items in let v = c.in-Some.seat.me.0 in
    let holds = held_in _ c.rest.inside.seat c.in-Some.seat c.rest.invariant.0 c.in-Some.is in
    let none : alone_in v ≡ None = sym (ap (λ o. alone_in (option_map_or (λ s. s.me.0) o [])) c.in-Some.is) ∙ ap (λ (r : RestState). r.alone) c.rest.view_is ∙ c.requires.unknown in
    let other : c.load_live-live.result ≢ length turns = search rules in
    let is : c.load_live-live.new.seat.me.0 ≡ v = c.load_live-live.ensures.view.0 ∙ found_other turns drops v c.load_live-live.result holds.0 other in
    ((subst (λ u. IsRestView turns drops u) (sym is) holds.0, c.load_live-live.ensures.view.1 ∙ holds.1, holds.2, subst (λ u. RestParts (map parts_found c.rest.inside.parts.items) u) (sym is) holds.3), tt, c.rest.invariant.2, c.rest.invariant.3, c.rest.invariant.4, c.rest.invariant.5, c.rest.invariant.6, knows_again _ _ _ c.load_live-live.ensures.known (held_in _ c.rest.inside.seat c.in-Some.seat c.rest.invariant.7 c.in-Some.is))

pub returns-then-live-len : goal.returns-then-live-len
returns-then-live-len g c =
    let turns = c.rest.inside.turns.items in let drops = c.rest.inside.drops.items in let v = c.in-Some.seat.me.0 in
    let holds = held_in _ c.rest.inside.seat c.in-Some.seat c.rest.invariant.0 c.in-Some.is in
    let none : alone_in v ≡ None = sym (ap (λ o. alone_in (option_map_or (λ s. s.me.0) o [])) c.in-Some.is) ∙ ap (λ (r : RestState). r.alone) c.rest.view_is ∙ c.requires.unknown in
    let other : c.load_live-live.result ≢ length turns = search rules in
    let is : c.load_live-live.new.seat.me.0 ≡ v = c.load_live-live.ensures.view.0 ∙ found_other turns drops v c.load_live-live.result holds.0 other in
    let table : c.load_live-live.new.seat.table_id ≡ c.args.self.now.table = search rules in
    let alone : alone_in c.load_live-live.new.seat.me.0 ≡ None = ap alone_in is ∙ none in
    let full : full_in c.load_live-live.new.seat.me.0 ≡ [] = ap full_in is ∙ none_full turns drops v holds.0 none in
    let now : c.load_live-live.new.seat.found ≡ c.load_live-live.result ∷ c.args.rest.found = c.load_live-live.ensures.found ∙ sym (ap (λ o. c.load_live-live.result ∷ option_map_or (λ s. s.found) o []) c.in-Some.is) ∙ ap (λ (r : RestState). c.load_live-live.result ∷ r.found) c.rest.view_is in
    ((λ i. rest_with (Some (table i)) (c.rest.view_is i).room (c.rest.view_is i).turns (c.rest.view_is i).dropped (alone i) (full i) (now i)), subst (λ (r : RestState). c.load_live-live.result ≢ length r.turns) c.rest.view_is other)

pub look_for_halt-halt-requires-clause-ready : goal.look_for_halt-halt-requires-clause-ready
look_for_halt-halt-requires-clause-ready g c =
    let turns = c.rest.inside.turns.items in let drops = c.rest.inside.drops.items in let v = c.in-Some.seat.me.0 in
    let holds = held_in _ c.rest.inside.seat c.in-Some.seat c.rest.invariant.0 c.in-Some.is in
    let none : alone_in v ≡ None = sym (ap (λ o. alone_in (option_map_or (λ s. s.me.0) o [])) c.in-Some.is) ∙ ap (λ (r : RestState). r.alone) c.rest.view_is ∙ c.requires.unknown in
    let all : c.load_live-live.result ≡ length turns = search rules in
    let is : c.load_live-live.new.seat.me.0 ≡ Has Alone ∷ v = c.load_live-live.ensures.view.0 ∙ found_all turns drops v c.load_live-live.result holds.0 all in
    subst MayLook (sym is) (may_look turns drops v holds.0 none holds.2)

pub invariant_of-rest-2 : goal.invariant_of-rest-2
invariant_of-rest-2 g c =
    let turns = c.rest.inside.turns.items in let drops = c.rest.inside.drops.items in let v = c.in-Some.seat.me.0 in
    let holds = held_in _ c.rest.inside.seat c.in-Some.seat c.rest.invariant.0 c.in-Some.is in
    let none : alone_in v ≡ None = sym (ap (λ o. alone_in (option_map_or (λ s. s.me.0) o [])) c.in-Some.is) ∙ ap (λ (r : RestState). r.alone) c.rest.view_is ∙ c.requires.unknown in
    let all : c.load_live-live.result ≡ length turns = search rules in
    let is : c.load_live-live.new.seat.me.0 ≡ Has Alone ∷ v = c.load_live-live.ensures.view.0 ∙ found_all turns drops v c.load_live-live.result holds.0 all in
    let looked_is : c.look_for_halt-halt.new.seat.me.0 ≡ looked c.look_for_halt-halt.result (Has Alone ∷ v) = c.look_for_halt-halt.ensures.view.0 ∙ ap (looked c.look_for_halt-halt.result) is in
    let r = looked_view turns drops v c.look_for_halt-halt.result (not (c.look_for_halt-halt.result == 0)) holds.0 none (test_some c.look_for_halt-halt.result) (test_none c.look_for_halt-halt.result) in
    ((subst (λ u. IsRestView turns drops u) (sym looked_is) r.0, c.look_for_halt-halt.ensures.view.1 ∙ c.load_live-live.ensures.view.1 ∙ holds.1, holds.2, subst (λ u. RestParts (map parts_found c.rest.inside.parts.items) u) (sym looked_is) (looked_parts turns drops (map parts_found c.rest.inside.parts.items) v c.look_for_halt-halt.result holds.0 none holds.3)), tt, c.rest.invariant.2, c.rest.invariant.3, c.rest.invariant.4, c.rest.invariant.5, c.rest.invariant.6, knows_again _ _ _ c.look_for_halt-halt.ensures.known (knows_again _ _ _ c.load_live-live.ensures.known (held_in _ c.rest.inside.seat c.in-Some.seat c.rest.invariant.7 c.in-Some.is)))

pub returns : goal.returns
returns g c =
    let turns = c.rest.inside.turns.items in let drops = c.rest.inside.drops.items in let v = c.in-Some.seat.me.0 in
    let holds = held_in _ c.rest.inside.seat c.in-Some.seat c.rest.invariant.0 c.in-Some.is in
    let none : alone_in v ≡ None = sym (ap (λ o. alone_in (option_map_or (λ s. s.me.0) o [])) c.in-Some.is) ∙ ap (λ (r : RestState). r.alone) c.rest.view_is ∙ c.requires.unknown in
    let all : c.load_live-live.result ≡ length turns = search rules in
    let is : c.load_live-live.new.seat.me.0 ≡ Has Alone ∷ v = c.load_live-live.ensures.view.0 ∙ found_all turns drops v c.load_live-live.result holds.0 all in
    let looked_is : c.look_for_halt-halt.new.seat.me.0 ≡ looked c.look_for_halt-halt.result (Has Alone ∷ v) = c.look_for_halt-halt.ensures.view.0 ∙ ap (looked c.look_for_halt-halt.result) is in
    let r = looked_view turns drops v c.look_for_halt-halt.result (not (c.look_for_halt-halt.result == 0)) holds.0 none (test_some c.look_for_halt-halt.result) (test_none c.look_for_halt-halt.result) in
    let table : c.look_for_halt-halt.new.seat.table_id ≡ c.args.self.now.table = search rules in
    let alone : alone_in c.look_for_halt-halt.new.seat.me.0 ≡ Some (not (c.look_for_halt-halt.result == 0)) = ap alone_in looked_is ∙ r.1 in
    let full : full_in c.look_for_halt-halt.new.seat.me.0 ≡ [] = ap full_in looked_is ∙ r.2 in
    let same : c.load_live-live.result ≡ length c.args.rest.turns = all ∙ ap (λ (s : RestState). length s.turns) c.rest.view_is in
    let halt = c.look_for_halt-halt.result in
    let now : c.look_for_halt-halt.new.seat.found ≡ halt ∷ c.load_live-live.result ∷ c.args.rest.found =
    c.look_for_halt-halt.ensures.found ∙ ap (λ ns. halt ∷ ns) (c.load_live-live.ensures.found ∙ sym (ap (λ o. c.load_live-live.result ∷ option_map_or (λ s. s.found) o []) c.in-Some.is) ∙ ap (λ (r : RestState). c.load_live-live.result ∷ r.found) c.rest.view_is) in
    let tells : IsTrue (not (halt == 0)) ↔ (halt ≢ 0) = search (rules, nat_tests) in (
      λ i. rest_with (Some (table i)) (c.rest.view_is i).room (c.rest.view_is i).turns (c.rest.view_is i).dropped (alone i) (full i) c.look_for_halt-halt.new.seat.found,
      subst (λ ns. FindsTwo (λ live h. (live ≡ length c.args.rest.turns) × (IsTrue (not (halt == 0)) ↔ (h ≢ 0))) c.args.rest.found ns) (sym now) (refl, (same, tells)),
    )
