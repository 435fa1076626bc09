use Rattle.std.proofs.Common.{rules, ◌≡◌, subst, ◌+◌, arith}
use Rattle.std.specs.Prelude.{length}
use Rattle.std.specs.Arc.{arc_value}
use Rattle.task_graph.specs.NetRows.{NetRows}
use Rattle.table_steps.specs.inside.Accounts.{tokens_from}
use Rattle.table_steps.specs.inside.Halts.{with_fault_drawn, MayFault}
use Rattle.table_steps.proofs.HaltSteps.{fault_allowed}
use Rattle.table_steps.specs.inside.SeatViews.{me_of}
use Rattle.table_steps.proofs.ValueSteps.{draws_knowing}
use Rattle.table_steps.proofs.words.Words.fault_told.Goals as goal

pub fetch_add-requires : goal.fetch_add-requires
fetch_add-requires g c =
    let same : arc_value c.args.self.now.net ≡ arc_value c.args.self.now.table.shared.key.net = search rules in
    let sized : c.args.self.now.table.shared.table_id.words ≡ tokens_from (arc_value c.args.self.now.net) + length (arc_value c.args.self.now.net).edges + length (arc_value c.args.self.now.net).tasks = search rules in
    let net = arc_value c.args.self.now.table.shared.key.net in let limit = c.args.self.now.table.shared.key.limit in let me = c.args.seat.now.me in
    let slots = c.args.self.now.table.shared.table_id.slots in let id = c.args.seat.now.id in (
      search rules,
      omega (arith, sized),
      draws_knowing net limit slots id me (λ k m. (m.0 ≡ with_fault_drawn g.A.Blames.why k me.0.notes) × (m.1 ≡ me.1)) c.requires.held
          (fault_allowed net limit slots id (me_of me) g.A.Blames.why (subst (λ (n : NetRows). MayFault n g.A.Blames.why me.0.notes) same c.requires.ready)),
    )
