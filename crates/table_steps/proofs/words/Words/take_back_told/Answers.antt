use Rattle.std.proofs.Common.{rules, ◌≡◌, subst, sym, ap, ◌∙◌, ℕ, ◌+◌, ◌<◌, arith}
use Rattle.std.specs.Prelude.{length}
use Rattle.std.specs.Arc.{arc_value}
use Rattle.task_graph.specs.NetRows.{NetRows}
use Rattle.atomic_table.specs.Table.{Allows, rest}
use Rattle.table_steps.specs.inside.Accounts.{KeepsAccounts, tokens_from, marks_from}
use Rattle.table_steps.specs.inside.SlotKinds.{take_laid}
use Rattle.table_steps.proofs.SlotSeats.{take_back_allowed}
use Rattle.table_steps.specs.Values.{given_parts}
use Rattle.table_steps.specs.inside.SeatViews.{me_of}
use Rattle.table_steps.proofs.ValueSteps.{steps_knowing}
use Rattle.table_steps.proofs.words.Words.take_back_told.Goals as goal

pub swap-requires : goal.swap-requires
swap-requires g c =
    let same : arc_value c.args.self.now.net ≡ arc_value c.args.self.now.table.shared.key.net = search rules in
    let sized : c.args.self.now.table.shared.table_id.words ≡ tokens_from (arc_value c.args.self.now.net) + length (arc_value c.args.self.now.net).edges + length (arc_value c.args.self.now.net).tasks = search rules in
    let net = arc_value c.args.self.now.table.shared.key.net in let limit = c.args.self.now.table.shared.key.limit in let me = c.args.seat.now.me in
    let slots = c.args.self.now.table.shared.table_id.slots in let id = c.args.seat.now.id in
    let below : c.args.edge < length net.edges = subst (λ (n : NetRows). c.args.edge < length n.edges) same c.requires.in_range in
    let word_is : c.args.word ≡ marks_from net + c.args.edge = c.requires.word ∙ ap (λ (n : NetRows). marks_from n + c.args.edge) same in (
      search rules,
      omega (arith, c.requires.in_range, c.requires.word, sized),
      steps_knowing net limit slots id me c.args.word (λ _. 0) (λ k m. (m.0 ≡ take_laid g.A.Edged.edge me.0.notes) × (m.1 ≡ rest me.1)) (λ z. omega (arith, z, c.requires.word)) c.requires.held
          (subst (λ (w : ℕ). Allows (KeepsAccounts given_parts net limit) slots id (me_of me) w (λ _. 0) (λ k m. (m.0 ≡ take_laid g.A.Edged.edge me.0.notes) × (m.1 ≡ rest me.1))) (sym word_is)
          (subst (λ (e : ℕ). Allows (KeepsAccounts given_parts net limit) slots id (me_of me) (marks_from net + c.args.edge) (λ _. 0) (λ k m. (m.0 ≡ take_laid e me.0.notes) × (m.1 ≡ rest me.1))) (sym c.requires.told)
          (take_back_allowed net limit slots id (me_of me) c.args.edge below c.requires.ready))),
    )
