use Rattle.std.proofs.Common.{◌≡◌, [], ◌∷◌, ◌++◌, sym, ap, ◌∙◌, subst, arith}
use Rattle.std.proofs.lemmas.List.Elements.{All-push}
use Rattle.task_graph.specs.NetRows.{NetRows}
use Rattle.join_tables.specs.States.{FreshState}
use Rattle.table_runs.specs.RunKeys.{FrameKey}
use Rattle.table_runs.specs.StepReleases.{GivesEdges}
use Rattle.table_runs.specs.Runs.{AreOf}
use Rattle.table_runs.proofs.Making.{PaidSoFar, next_is, released_is, paid_next, paid_released, paid_all, none_left}
use Rattle.table_runs.proofs.table_run.TableRun.pay.Goals as goal

pub loop-next-preserved-in-Next : goal.loop-next-preserved-in-Next
loop-next-preserved-in-Next g c =
    let i = c.loop-next.invariant in
    let net = c.self.inside.table.net in
    let next = c.in-Next.next in
    let n = next_is net c.loop-next.owing next c.give.result c.in-Next.is c.give.ensures in
    let paid = paid_next net c.loop-next.owing next c.loop-next.owing.left c.args.owing.left c.args.made.now.items c.loop-next.made.items c.give.result c.in-Next.is c.give.ensures i.paid in
    let left = n.left in
    record {
      table = n.table ∙ i.table;
      units = n.units;
      ended = n.ended ∙ i.ended;
      of = i.of;
      paid = subst (λ m. PaidSoFar net m c.args.owing.left next.left c.args.made.now.items c.loop-next.made.items) (sym n.table) paid;
      few = omega (arith, i.few, left);
      bare = n.bare ∙ i.bare;
      capacity = i.capacity;
    }

pub loop-next-preserved : goal.loop-next-preserved
loop-next-preserved g c =
    let i = c.loop-next.invariant in
    let net = c.self.inside.table.net in
    let next = c.in-Released.next in
    let fresh = c.in-Released.fresh in
    let r = released_is net c.loop-next.owing next fresh c.give.result c.in-Released.is c.give.ensures in
    let items = c.push_reserved.ensures.items ∙ ap (λ (f : FreshState). c.loop-next.made.items ++ f ∷ []) c.fresh.ensures in
    let paid = paid_released net c.loop-next.owing next fresh c.loop-next.owing.left c.args.owing.left c.args.made.now.items c.loop-next.made.items c.push_reserved.new.self.items c.give.result c.in-Released.is c.give.ensures items i.paid in
    let left = r.0.left in
    record {
      table = r.0.table ∙ i.table;
      units = r.0.units;
      ended = r.0.ended ∙ i.ended;
      of = subst (AreOf c.args.self.now.table) (sym items) (All-push (λ (f : FreshState). f.table ≡ c.args.self.now.table) c.loop-next.made.items fresh i.of (r.1 ∙ i.table));
      paid = subst (λ m. PaidSoFar net m c.args.owing.left next.left c.args.made.now.items c.push_reserved.new.self.items) (sym r.0.table) paid;
      few = omega (arith, i.few, left, c.push_reserved.ensures.len);
      bare = r.0.bare ∙ i.bare;
      capacity = c.push_reserved.ensures.capacity ∙ i.capacity;
    }

pub returns-in-Finished-clause-gives : goal.returns-in-Finished-clause-gives
returns-in-Finished-clause-gives g c =
    let i = c.loop-next.invariant in
    let same = ap (λ (k : FrameKey g.row.J.Denot). k.job) c.self.view_is in
    let none = none_left c.self.inside.table.net c.loop-next.owing c.in-Finished.spent c.give.result c.in-Finished.is c.give.ensures in
    let paid = paid_all c.self.inside.table.net c.loop-next.owing.table c.args.owing.left c.loop-next.owing.left c.args.made.now.items c.loop-next.made.items none i.paid in
    subst (λ n. GivesEdges (g.J.Job.meaning.net c.args.self.now.job) n c.args.owing.left c.args.made.now.items c.loop-next.made.items) i.table
    (subst (λ (n : NetRows). GivesEdges n c.loop-next.owing.table c.args.owing.left c.args.made.now.items c.loop-next.made.items) (c.self.invariant.0.net ∙ ap g.J.Job.meaning.net same) paid)
