use Rattle.std.proofs.Common.{rules, ◌≡◌, subst, sym, ap, ◌∙◌, ℕ, ◌+◌, ◌%◌, ◌^◌, arith}
use Rattle.std.specs.Prelude.{length}
use Rattle.std.specs.Arc.{arc_value}
use Rattle.task_graph.specs.NetRows.{NetRows}
use Rattle.atomic_table.specs.Table.{Allows}
use Rattle.table_steps.specs.inside.Accounts.{KeepsAccounts, tokens_from}
use Rattle.table_steps.specs.inside.CreditKinds.{MayUnclaim, unclaimed}
use Rattle.table_steps.proofs.CreditSeats.{unclaim_allowed}
use Rattle.table_steps.specs.inside.TableSeats.{TableSeatState}
use Rattle.table_steps.proofs.TableSeats.{at_seat}
use Rattle.table_steps.specs.Values.{given_parts}
use Rattle.table_steps.specs.inside.SeatViews.{me_of}
use Rattle.table_steps.proofs.ValueSteps.{steps_knowing}
use Rattle.table_steps.proofs.words.Words.undo_claim.Goals as goal

pub fetch_add-requires : goal.fetch_add-requires
fetch_add-requires g c =
    let same : arc_value c.args.self.now.net ≡ arc_value c.args.self.now.table.shared.key.net = search rules in
    let sized : c.args.self.now.table.shared.table_id.words ≡ tokens_from (arc_value c.args.self.now.net) + length (arc_value c.args.self.now.net).edges + length (arc_value c.args.self.now.net).tasks = search rules in
    let net = arc_value c.args.self.now.table.shared.key.net in let limit = c.args.self.now.table.shared.key.limit in let me = c.seat.inside.seat.me in
    let slots = c.args.self.now.table.shared.table_id.slots in let id = c.seat.inside.seat.id in
    let word_is : c.credit_word-word.result ≡ 40 + length net.sems + c.args.sem = c.credit_word-word.ensures ∙ ap (λ (n : NetRows). 40 + length n.sems + c.args.sem) same in (
      search rules,
      omega (arith, c.requires.in_range, c.credit_word-word.ensures, sized),
      steps_knowing net limit slots id me c.credit_word-word.result (λ k. (k + 1) % 2 ^ 64) (λ k m. (m.0 ≡ unclaimed me.0.notes) × (m.1 ≡ me.1)) (λ z. omega (arith, z, c.credit_word-word.ensures)) c.seat.invariant
          (subst (λ (w : ℕ). Allows (KeepsAccounts given_parts net limit) slots id (me_of me) w (λ k. (k + 1) % 2 ^ 64) (λ k m. (m.0 ≡ unclaimed me.0.notes) × (m.1 ≡ me.1))) (sym word_is)
          (unclaim_allowed net limit slots id (me_of me) c.args.sem (subst (λ (n : NetRows). MayUnclaim n c.args.sem me.0.notes) same (at_seat (λ (p : TableSeatState _). MayUnclaim (arc_value c.args.self.now.net) c.args.sem p.me.0) c.seat.view_is c.requires.ready)))),
    )
