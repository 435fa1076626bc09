use Rattle.std.proofs.Common.{rules, ◌≡◌, subst, sym, ◌∙◌, ◌+◌, ◌%◌, ◌^◌, arith}
use Rattle.std.specs.Prelude.{length}
use Rattle.std.specs.Arc.{arc_value}
use Rattle.task_graph.specs.NetRows.{NetRows}
use Rattle.task_graph.specs.Net.{IsNet}
use Rattle.atomic_table.specs.Table.{Allows}
use Rattle.table_steps.specs.inside.Accounts.{KeepsAccounts, tokens_from}
use Rattle.table_steps.specs.inside.Kinds.{MayDrawStart, with_start_drawn}
use Rattle.table_steps.proofs.TurnSteps.{start_allowed}
use Rattle.table_steps.specs.Values.{given_parts}
use Rattle.table_steps.specs.inside.SeatViews.{me_of}
use Rattle.table_steps.proofs.ValueSteps.{draws_knowing}
use Rattle.table_steps.proofs.words.Words.start_told.Goals as goal

pub fetch_add-requires : goal.fetch_add-requires
fetch_add-requires g c =
    let same : arc_value c.args.self.now.net ≡ arc_value c.args.self.now.table.shared.key.net = search rules in
    let sized : c.args.self.now.table.shared.table_id.words ≡ tokens_from (arc_value c.args.self.now.net) + length (arc_value c.args.self.now.net).edges + length (arc_value c.args.self.now.net).tasks = search rules in
    let net = arc_value c.args.self.now.table.shared.key.net in let limit = c.args.self.now.table.shared.key.limit in let me = c.args.seat.now.me in
    let slots = c.args.self.now.table.shared.table_id.slots in let id = c.args.seat.now.id in (
      search rules,
      omega (arith, sized),
      draws_knowing net limit slots id me (λ k m. (m.0 ≡ with_start_drawn g.A.StepFacts.net k me.0.notes) × (m.1 ≡ me.1) × IsNet g.A.StepFacts.net) c.requires.held
          (subst (λ (n : NetRows). Allows (KeepsAccounts given_parts net limit) slots id (me_of me) 8 (λ k. (k + 1) % 2 ^ 64) (λ k m. (m.0 ≡ with_start_drawn n k me.0.notes) × (m.1 ≡ me.1) × IsNet n)) (sym (c.requires.told ∙ same))
          (start_allowed net limit slots id (me_of me) (subst (λ (n : NetRows). MayDrawStart n me.0.notes) same c.requires.ready))),
    )
