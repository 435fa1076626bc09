use Rattle.std.proofs.Common.{rules, ◌≡◌, subst, sym, ap, ◌∙◌, ℕ, ◌+◌, ◌-◌, ◌%◌, ◌^◌, arith}
use Rattle.std.specs.Prelude.{length}
use Rattle.std.specs.Arc.{arc_value}
use Rattle.task_graph.specs.NetRows.{NetRows}
use Rattle.atomic_table.specs.Table.{Allows}
use Rattle.table_steps.specs.inside.Accounts.{KeepsAccounts, tokens_from}
use Rattle.table_steps.specs.inside.Kinds.{took, TakesNextToken}
use Rattle.table_steps.proofs.TokenSteps.{take_allowed}
use Rattle.table_steps.specs.inside.TableSeats.{TableSeatState}
use Rattle.table_steps.proofs.TableSeats.{at_seat}
use Rattle.table_steps.specs.Values.{given_parts}
use Rattle.table_steps.specs.inside.SeatViews.{me_of}
use Rattle.table_steps.proofs.ValueSteps.{steps_knowing}
use Rattle.table_steps.proofs.words.Words.take_token.Goals as goal

pub fetch_sub-found-requires : goal.fetch_sub-found-requires
fetch_sub-found-requires g c =
    let same : arc_value c.args.self.now.net ≡ arc_value c.args.self.now.table.shared.key.net = search rules in
    let sized : c.args.self.now.table.shared.table_id.words ≡ tokens_from (arc_value c.args.self.now.net) + length (arc_value c.args.self.now.net).edges + length (arc_value c.args.self.now.net).tasks = search rules in
    let net = arc_value c.args.self.now.table.shared.key.net in let limit = c.args.self.now.table.shared.key.limit in let me = c.seat.inside.seat.me in
    let slots = c.args.self.now.table.shared.table_id.slots in let id = c.seat.inside.seat.id in
    let found : c.edge_word.result ≡ tokens_from (arc_value c.args.self.now.net) + c.args.edge = search rules in
    let word_is : c.edge_word.result ≡ tokens_from net + c.args.edge = found ∙ ap (λ (n : NetRows). tokens_from n + c.args.edge) same in (
      search rules,
      omega (arith, c.requires.in_range, found, sized),
      steps_knowing net limit slots id me c.edge_word.result (λ k. (k + (2 ^ 64 - 1)) % 2 ^ 64) (λ k m. (m.0 ≡ took k me.0.notes) × (m.1 ≡ me.1)) (λ z. omega (arith, z, found)) c.seat.invariant
          (subst (λ (w : ℕ). Allows (KeepsAccounts given_parts net limit) slots id (me_of me) w (λ k. (k + (2 ^ 64 - 1)) % 2 ^ 64) (λ k m. (m.0 ≡ took k me.0.notes) × (m.1 ≡ me.1))) (sym word_is)
          (take_allowed net limit slots id (me_of me) c.args.edge (subst (λ (n : NetRows). TakesNextToken n c.args.edge me.0.notes) same (at_seat (λ (p : TableSeatState _). TakesNextToken (arc_value c.args.self.now.net) c.args.edge p.me.0) c.seat.view_is c.requires.ready)))),
    )
