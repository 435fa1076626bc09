use Rattle.std.proofs.Common.{rules, ◌≡◌, subst, sym, ◌∙◌, ℕ, ◌+◌, ◌%◌, ◌^◌, arith}
use Rattle.std.specs.Prelude.{length}
use Rattle.std.specs.Arc.{arc_value}
use Rattle.task_graph.specs.NetRows.{NetRows}
use Rattle.atomic_table.specs.Table.{Allows}
use Rattle.table_steps.specs.inside.Accounts.{KeepsAccounts, tokens_from}
use Rattle.table_steps.specs.inside.UnitKinds.{took_unit, MayTake}
use Rattle.table_steps.proofs.UnitSeats.{take_allowed}
use Rattle.table_steps.specs.Values.{given_parts}
use Rattle.table_steps.specs.inside.SeatViews.{me_of}
use Rattle.table_steps.proofs.ValueSteps.{steps_knowing}
use Rattle.table_steps.proofs.words.Words.take_unit_told.Goals as goal

pub fetch_add-requires : goal.fetch_add-requires
fetch_add-requires g c =
    let same : arc_value c.args.self.now.net ≡ arc_value c.args.self.now.table.shared.key.net = search rules in
    let sized : c.args.self.now.table.shared.table_id.words ≡ tokens_from (arc_value c.args.self.now.net) + length (arc_value c.args.self.now.net).edges + length (arc_value c.args.self.now.net).tasks = search rules in
    let net = arc_value c.args.self.now.table.shared.key.net in let limit = c.args.self.now.table.shared.key.limit in let me = c.args.seat.now.me in
    let slots = c.args.self.now.table.shared.table_id.slots in let id = c.args.seat.now.id in (
      search rules,
      omega (arith, c.requires.in_range, sized),
      steps_knowing net limit slots id me (40 + c.args.sem) (λ k. (k + 1) % 2 ^ 64) (λ k m. (m.0 ≡ took_unit g.A.Semaphore.net g.A.Semaphore.sem k me.0.notes) × (m.1 ≡ me.1)) (λ z. omega arith) c.requires.held
          (subst (λ (n : NetRows). Allows (KeepsAccounts given_parts net limit) slots id (me_of me) (40 + c.args.sem) (λ k. (k + 1) % 2 ^ 64) (λ k m. (m.0 ≡ took_unit n g.A.Semaphore.sem k me.0.notes) × (m.1 ≡ me.1))) (sym (c.requires.told.0 ∙ same))
          (subst (λ (e : ℕ). Allows (KeepsAccounts given_parts net limit) slots id (me_of me) (40 + c.args.sem) (λ k. (k + 1) % 2 ^ 64) (λ k m. (m.0 ≡ took_unit net e k me.0.notes) × (m.1 ≡ me.1))) (sym c.requires.told.1)
          (take_allowed net limit slots id (me_of me) c.args.sem (subst (λ (n : NetRows). MayTake n c.args.sem me.0.notes) same c.requires.ready)))),
    )
