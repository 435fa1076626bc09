use Rattle.std.proofs.Common.{refl, arith, ◌≤◌, ◌<◌, ◌∙◌, sym, subst, ap, length, length-set, List}
use Rattle.std.specs.Prelude.{slice_index_or, slice_set, false}
use Rattle.std.proofs.lemmas.List.{get_or_default}
use Rattle.task_graph.specs.Net.{strong_in}
use Rattle.task_graph.specs.declared.net.EdgeRow.{EdgeRow}
use Rattle.journal_rules.specs.declared.rounds.Round.{Round}
use Rattle.journal_rules.specs.inside.Rounds.{IsRound}
use Rattle.journal_rules.proofs.Tallying.{strong_in_tallied}
use Rattle.journal_rules.proofs.Rounding.{rounds_weak, rounds_strong, target_reached, target_least, row_stands, weak_row, strong_once, target_in_range}
use Rattle.journal_rules.proofs.rounds.Rounds.give_one.Goals as goal

abbrev no_row : EdgeRow
no_row = record { from = 0; to = 0; start = false }

pub returns-else-not-is_weak-clause-rounds : goal.returns-else-not-is_weak-clause-rounds
returns-else-not-is_weak-clause-rounds c =
    let net = c.args.net.now in
    let stands = row_stands net c.args.edge no_row c.requires.edge in
    rounds_weak net c.args.self.now _ c.args.edge _ _ c.requires.rounds stands (weak_row net c.args.edge _ _ stands (sym c.if-not-is_weak.false ∙ c.is_weak.ensures)) refl refl

pub add_token-requires-clause-edges : goal.add_token-requires-clause-edges
add_token-requires-clause-edges c =
    strong_in_tallied c.args.net.now _ _ c.as_slice.result.now c.strong_in-edges.ensures (ap length c.as_slice.ensures.value ∙ length-set _ _ _ ∙ c.requires.rounds.given_len)

pub add_token-requires-clause-reached : goal.add_token-requires-clause-reached
add_token-requires-clause-reached c =
    let net = c.args.net.now in
    let stands = row_stands net c.args.edge no_row c.requires.edge in
    let strong = weak_row net c.args.edge _ _ stands (sym c.if-not-is_weak.true ∙ c.is_weak.ensures) in
    let in_range = target_in_range net c.args.edge _ c.edges.ensures.well_formed stands in
    let round_is = rw c.edges.ensures.rows at c.index_mut-then-not-is_weak.ensures.value in
    subst (λ (r : Round). 1 ≤ r.at_least) (sym round_is) (target_reached net c.args.self.now c.args.edge _ c.index_mut-then-not-is_weak.result.now c.requires.rounds stands strong in_range)

pub add_token-requires-clause-room : goal.add_token-requires-clause-room
add_token-requires-clause-room c =
    let net = c.args.net.now in
    let stands = row_stands net c.args.edge no_row c.requires.edge in
    let strong = weak_row net c.args.edge _ _ stands (sym c.if-not-is_weak.true ∙ c.is_weak.ensures) in
    let in_range = target_in_range net c.args.edge _ c.edges.ensures.well_formed stands in
    let round_is = rw c.edges.ensures.rows at c.index_mut-then-not-is_weak.ensures.value in
    let lowest = target_least net c.args.self.now c.args.edge _ c.index_mut-then-not-is_weak.result.now c.requires.rounds stands strong in_range in
    let below : c.args.edge < length c.args.self.now.given.items = omega (arith, c.requires.rounds.given_len, c.requires.edge) in
    subst (λ (r : Round). r.least < 9223372036854775808) (sym round_is) (omega (arith, lowest, c.requires.room c.args.edge 0 below))

pub returns-then-not-is_weak-clause-rounds : goal.returns-then-not-is_weak-clause-rounds
returns-then-not-is_weak-clause-rounds c =
    let net = c.args.net.now in
    let stands = row_stands net c.args.edge no_row c.requires.edge in
    let strong = weak_row net c.args.edge _ _ stands (sym c.if-not-is_weak.true ∙ c.is_weak.ensures) in
    let in_range = target_in_range net c.args.edge _ c.edges.ensures.well_formed stands in
    let round_is = rw c.edges.ensures.rows at c.index_mut-then-not-is_weak.ensures.value in
    let edges_is = rw c.edges.ensures.rows at c.strong_in-edges.ensures in
    let below : c.args.edge < length c.args.self.now.given.items = omega (arith, c.requires.rounds.given_len, c.requires.edge) in
    let was = subst (λ (r : Round). IsRound c.args.self.now.given.items (strong_in net (slice_index_or net.edges c.args.edge no_row).to) r) (sym round_is) (c.requires.rounds.each _ c.index_mut-then-not-is_weak.result.now in_range) in
    let before = c.index-before.ensures ∙ get_or_default c.args.self.now.given.items c.args.edge c.index-before.result.now 0 below in
    let now = c.add_token.ensures c.args.self.now.given.items c.args.edge (rw (← edges_is) at was)
    (record { within = below; was = before; now = c.as_slice.ensures.value; once = rw (← edges_is) at (strong_once net c.args.edge _ stands strong) }) in
    rounds_strong net c.args.self.now _ c.args.edge _ _ c.add_token.new.self c.requires.rounds stands in_range refl
    (ap (λ (rows : List EdgeRow). slice_set c.args.self.now.by_task.items (slice_index_or rows c.args.edge no_row).to c.add_token.new.self) c.edges.ensures.rows)
    (rw (c.as_slice.ensures.value, edges_is) at now)
