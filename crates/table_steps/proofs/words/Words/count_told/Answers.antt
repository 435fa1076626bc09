use Rattle.std.proofs.Common.{rules, ◌≡◌, subst, sym, ap, ◌∙◌, ℕ, ◌+◌, ◌-◌, ◌%◌, ◌^◌, arith}
use Rattle.std.specs.Prelude.{length}
use Rattle.std.specs.Arc.{arc_value}
use Rattle.task_graph.specs.NetRows.{NetRows}
use Rattle.atomic_table.specs.Table.{Allows}
use Rattle.table_steps.specs.inside.Accounts.{KeepsAccounts, tokens_from}
use Rattle.table_steps.specs.inside.Kinds.{counted_one, CountsNext, AreNoneLeft, others_of}
use Rattle.table_steps.proofs.TokenSteps.{count_allowed}
use Rattle.table_steps.specs.Values.{given_parts}
use Rattle.table_steps.specs.inside.SeatViews.{me_of}
use Rattle.table_steps.proofs.ValueSteps.{steps_knowing}
use Rattle.table_steps.proofs.words.Words.count_told.Goals as goal

pub fetch_sub-requires : goal.fetch_sub-requires
fetch_sub-requires g c =
    let same : arc_value c.args.self.now.net ≡ arc_value c.args.self.now.table.shared.key.net = search rules in
    let sized : c.args.self.now.table.shared.table_id.words ≡ tokens_from (arc_value c.args.self.now.net) + length (arc_value c.args.self.now.net).edges + length (arc_value c.args.self.now.net).tasks = search rules in
    let net = arc_value c.args.self.now.table.shared.key.net in let limit = c.args.self.now.table.shared.key.limit in let me = c.args.seat.now.me in
    let slots = c.args.self.now.table.shared.table_id.slots in let id = c.args.seat.now.id in
    let word_is : c.args.word ≡ tokens_from net + length net.edges + c.args.task = c.requires.word ∙ ap (λ (n : NetRows). tokens_from n + length n.edges + c.args.task) same in (
      search rules,
      omega (arith, c.requires.in_range, c.requires.word, sized),
      steps_knowing net limit slots id me c.args.word (λ k. (k + (2 ^ 64 - 1)) % 2 ^ 64) (λ k m. (m.0 ≡ counted_one g.A.StepFacts.task k me.0.notes) × (m.1 ≡ me.1) × (k ≡ 1 → AreNoneLeft g.A.StepFacts.task (others_of me.0.notes))) (λ z. omega (arith, z, c.requires.word)) c.requires.held
          (subst (λ (w : ℕ). Allows (KeepsAccounts given_parts net limit) slots id (me_of me) w (λ k. (k + (2 ^ 64 - 1)) % 2 ^ 64) (λ k m. (m.0 ≡ counted_one g.A.StepFacts.task k me.0.notes) × (m.1 ≡ me.1) × (k ≡ 1 → AreNoneLeft g.A.StepFacts.task (others_of me.0.notes)))) (sym word_is)
          (subst (λ (t : ℕ). Allows (KeepsAccounts given_parts net limit) slots id (me_of me) (tokens_from net + length net.edges + c.args.task) (λ k. (k + (2 ^ 64 - 1)) % 2 ^ 64) (λ k m. (m.0 ≡ counted_one t k me.0.notes) × (m.1 ≡ me.1) × (k ≡ 1 → AreNoneLeft t (others_of me.0.notes)))) (sym c.requires.told)
          (count_allowed net limit slots id (me_of me) c.args.task c.args.edge (subst (λ (n : NetRows). CountsNext n c.args.task c.args.edge me.0.notes) same c.requires.ready)))),
    )
