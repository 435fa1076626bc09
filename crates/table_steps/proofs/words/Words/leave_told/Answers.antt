use Rattle.std.proofs.Common.{rules, ◌≡◌, subst, sym, ◌∙◌, ℕ, ◌+◌, ◌-◌, ◌%◌, ◌^◌, arith}
use Rattle.std.specs.Prelude.{length}
use Rattle.std.specs.Arc.{arc_value}
use Rattle.task_graph.specs.NetRows.{NetRows}
use Rattle.atomic_table.specs.Table.{Allows}
use Rattle.table_steps.specs.inside.Accounts.{KeepsAccounts, tokens_from}
use Rattle.table_steps.specs.inside.Kinds.{left_by, IsWhole}
use Rattle.table_steps.proofs.Leaving.{leave_allowed}
use Rattle.table_steps.specs.Values.{given_parts}
use Rattle.table_steps.specs.OneJournal.{entries_in, AreInOneJournal}
use Rattle.table_steps.specs.inside.SeatViews.{me_of}
use Rattle.table_steps.proofs.ValueSteps.{steps_knowing}
use Rattle.table_steps.proofs.words.Words.leave_told.Goals as goal

pub fetch_sub-requires : goal.fetch_sub-requires
fetch_sub-requires g c =
    let same : arc_value c.args.self.now.net ≡ arc_value c.args.self.now.table.shared.key.net = search rules in
    let sized : c.args.self.now.table.shared.table_id.words ≡ tokens_from (arc_value c.args.self.now.net) + length (arc_value c.args.self.now.net).edges + length (arc_value c.args.self.now.net).tasks = search rules in
    let net = arc_value c.args.self.now.table.shared.key.net in let limit = c.args.self.now.table.shared.key.limit in let me = c.args.seat.now.me in
    let slots = c.args.self.now.table.shared.table_id.slots in let id = c.args.seat.now.id in (
      search rules,
      omega (arith, sized),
      steps_knowing net limit slots id me 16 (λ k. (k + (2 ^ 64 - 1)) % 2 ^ 64) (λ k m. (m.0 ≡ left_by me.0.notes) × (m.1 ≡ me.1) × (k ≡ 1 → IsWhole g.A.StepFacts.net g.A.StepFacts.limit m.0) × AreInOneJournal g.A.StepFacts.net g.A.StepFacts.limit (entries_in m.0)) (λ z. omega arith) c.requires.held
          (subst (λ (n : NetRows). Allows (KeepsAccounts given_parts net limit) slots id (me_of me) 16 (λ k. (k + (2 ^ 64 - 1)) % 2 ^ 64) (λ k m. (m.0 ≡ left_by me.0.notes) × (m.1 ≡ me.1) × (k ≡ 1 → IsWhole n g.A.StepFacts.limit m.0) × AreInOneJournal n g.A.StepFacts.limit (entries_in m.0))) (sym (c.requires.told.0 ∙ same))
          (subst (λ (l : ℕ). Allows (KeepsAccounts given_parts net limit) slots id (me_of me) 16 (λ k. (k + (2 ^ 64 - 1)) % 2 ^ 64) (λ k m. (m.0 ≡ left_by me.0.notes) × (m.1 ≡ me.1) × (k ≡ 1 → IsWhole net l m.0) × AreInOneJournal net l (entries_in m.0))) (sym c.requires.told.1)
          (leave_allowed net limit slots id (me_of me) c.requires.keeper c.requires.ready))),
    )
