use Rattle.std.proofs.Common.{refl, ◌∙◌, ap, sym, subst, get_or, set, add-one}
use Rattle.async_tasks.specs.Books.{BookHistory}
use Rattle.async_tasks.specs.Adds.{with_items}
use Rattle.async_tasks.specs.Passes.{HasLooked}
use Rattle.async_tasks.proofs.Looking.{AreLooked, none_looked, ticket_next, looked_next, all_looked}
use Rattle.async_tasks.proofs.finish.look_with_all.Goals as goal

pub loop-pass-init : goal.loop-pass-init
loop-pass-init g c = (refl, none_looked c.args.register.now c.args.state.now.rows c.args.passes.now c.requires.passes)

pub loop-pass-preserved : goal.loop-pass-preserved
loop-pass-preserved g c =
    let inv = c.loop-pass.invariant in
    let rows = ap (λ (b : BookHistory g.row.W.Denot g.row.W-V.Denot). b.rows) inv.0 in (
      c.look.ensures.book ∙ ap (λ (b : BookHistory g.row.W.Denot g.row.W-V.Denot). with_items b c.look.new.self.items) inv.0,
      subst (λ n. AreLooked c.args.register.now c.args.state.now.rows n c.args.passes.now (set c.loop-pass.passes c.loop-pass.pass-index c.look.new.pass)) (sym (add-one c.loop-pass.pass-index))
          (looked_next c.args.register.now c.args.state.now.rows c.loop-pass.pass-index c.args.passes.now c.loop-pass.passes c.pass-item.result c.look.new.pass
          inv.1 c.loop-pass-test.true (subst (λ rs. HasLooked rs (get_or c.loop-pass.passes c.loop-pass.pass-index c.pass-item.result) c.look.new.pass) rows c.look.ensures.looked) c.look.ensures.ticket),
    )

pub returns-clause-tickets : goal.returns-clause-tickets
returns-clause-tickets g c = (all_looked c.args.register.now c.args.state.now.rows c.loop-pass.pass-index c.args.passes.now c.loop-pass.passes c.loop-pass.invariant.1 c.loop-pass-test.false).1

pub returns-clause-looked : goal.returns-clause-looked
returns-clause-looked g c = (all_looked c.args.register.now c.args.state.now.rows c.loop-pass.pass-index c.args.passes.now c.loop-pass.passes c.loop-pass.invariant.1 c.loop-pass-test.false).0

pub look-requires-clause-pass : goal.look-requires-clause-pass
look-requires-clause-pass g c κs within =
    ticket_next c.args.register.now c.args.state.now.rows c.loop-pass.pass-index c.args.passes.now c.loop-pass.passes c.pass-item.result c.loop-pass.invariant.1 c.loop-pass-test.true
