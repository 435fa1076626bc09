use Rattle.std.proofs.Common.{rules, ◌≡◌, subst, sym, ℕ, ◌+◌, ◌%◌, ◌^◌, arith}
use Rattle.std.specs.Prelude.{length}
use Rattle.std.specs.Arc.{arc_value}
use Rattle.atomic_table.specs.Table.{Allows}
use Rattle.table_steps.specs.inside.Accounts.{KeepsAccounts, tokens_from}
use Rattle.table_steps.specs.inside.Kinds.{admitted}
use Rattle.table_steps.proofs.TurnSteps.{admit_allowed}
use Rattle.table_steps.specs.Values.{given_parts}
use Rattle.table_steps.specs.inside.SeatViews.{me_of}
use Rattle.table_steps.proofs.ValueSteps.{steps_knowing}
use Rattle.table_steps.proofs.words.Words.admit_told.Goals as goal

pub fetch_add-requires : goal.fetch_add-requires
fetch_add-requires g c =
    let same : arc_value c.args.self.now.net ≡ arc_value c.args.self.now.table.shared.key.net = search rules in
    let sized : c.args.self.now.table.shared.table_id.words ≡ tokens_from (arc_value c.args.self.now.net) + length (arc_value c.args.self.now.net).edges + length (arc_value c.args.self.now.net).tasks = search rules in
    let net = arc_value c.args.self.now.table.shared.key.net in let limit = c.args.self.now.table.shared.key.limit in let me = c.args.seat.now.me in
    let slots = c.args.self.now.table.shared.table_id.slots in let id = c.args.seat.now.id in (
      search rules,
      omega (arith, sized),
      steps_knowing net limit slots id me 24 (λ k. (k + 1) % 2 ^ 64) (λ k m. (m.0 ≡ admitted g.A.StepFacts.limit k me.0.notes) × (m.1 ≡ me.1)) (λ z. omega arith) c.requires.held
          (subst (λ (l : ℕ). Allows (KeepsAccounts given_parts net limit) slots id (me_of me) 24 (λ k. (k + 1) % 2 ^ 64) (λ k m. (m.0 ≡ admitted l k me.0.notes) × (m.1 ≡ me.1))) (sym c.requires.told)
          (admit_allowed net limit slots id (me_of me) c.requires.ready)),
    )
