use Rattle.std.proofs.Common.{rules, ◌≡◌, ◌∷◌, IfSome, sym, ap, ◌∙◌, subst}
use Rattle.std.specs.Arc.{arc_value}
use Rattle.task_graph.specs.NetRows.{NetRows}
use Rattle.table_steps.specs.inside.Accounts.{AllFitNotes}
use Rattle.journal_rules.specs.declared.entry.Cause.TheVariants.{Weak}
use Rattle.join_tables.specs.inside.Seated.{HasMade}
use Rattle.join_tables.specs.States.{FreshState, fresh_state}
use Rattle.join_tables.specs.Turns.{cause_of}
use Rattle.table_steps.specs.inside.Kinds.{CountsNext, gave}
use Rattle.join_tables.proofs.Turning.{gave_made, gave_counts, owes_next, gives_weak, gives_counted, gives_uncounted}
use Rattle.join_tables.proofs.turns.NetTable.give_token.Goals as goal

pub count-requires-clause-ready : goal.count-requires-clause-ready
count-requires-clause-ready g c =
    let net_is : arc_value c.self.inside.words.net ≡ c.args.self.now.net = search rules in
    let net = c.args.self.now.net in
    let view : c.give_token-found.new.seat.me.0 ≡ gave net c.args.edge c.give_token-found.result c.args.seat.now.me.0 =
    c.give_token-found.ensures.view.0 ∙ (λ i. gave (net_is i) c.args.edge c.give_token-found.result (c.learn.ensures.view.0 i)) in
    let fits = subst (λ (n : NetRows). AllFitNotes n c.args.seat.now.me.0) net_is c.learn.ensures.fits in
    subst (λ v. CountsNext net c.target-task.result.task c.args.edge v) (sym view)
    (gave_counts net c.args.edge c.target-task.result.task c.give_token-found.result c.args.seat.now.me.0 (owes_next net c.args.edge c.args.seat.now.me.0 c.requires.ready fits)
    (sym c.target-task.ensures.weak ∙ c.if-weak.false) c.if-found-eq0.true c.target-task.ensures.task c.target-task.ensures.in_range)

pub returns-then-weak-clause-fresh : goal.returns-then-weak-clause-fresh
returns-then-weak-clause-fresh g c = c.deal_fresh.ensures.fresh ∙ (λ i. fresh_state c.args.self.now.table (c.target-task.ensures.task i) (cause_of ((sym c.if-weak.true ∙ c.target-task.ensures.weak) i) c.args.edge))

pub returns-then-found-eq0-clause-fresh : goal.returns-then-found-eq0-clause-fresh
returns-then-found-eq0-clause-fresh g c =
    subst (λ (f : FreshState). IfSome c.count.result (λ fresh. fresh ≡ f)) (λ i. fresh_state c.args.self.now.table (c.target-task.ensures.task i) (cause_of ((sym c.if-weak.false ∙ c.target-task.ensures.weak) i) c.args.edge)) c.count.ensures.fresh

pub returns-then-weak-clause-found : goal.returns-then-weak-clause-found
returns-then-weak-clause-found g c =
    gives_weak _ c.give_token-found.result c.args.seat.now.found _ (sym c.target-task.ensures.weak ∙ c.if-weak.true) (c.deal_fresh.ensures.found ∙ c.give_token-found.ensures.found ∙ ap (λ ns. c.give_token-found.result ∷ ns) c.learn.ensures.found)

pub returns-then-found-eq0-clause-found : goal.returns-then-found-eq0-clause-found
returns-then-found-eq0-clause-found g c =
    gives_counted _ _ c.give_token-found.result c.args.seat.now.found c.give_token-found.new.seat.found _ (sym c.target-task.ensures.weak ∙ c.if-weak.false) c.if-found-eq0.true (c.give_token-found.ensures.found ∙ ap (λ ns. c.give_token-found.result ∷ ns) c.learn.ensures.found) c.count.ensures.found

pub returns-else-found-eq0-clause-found : goal.returns-else-found-eq0-clause-found
returns-else-found-eq0-clause-found g c =
    gives_uncounted _ c.give_token-found.result c.args.seat.now.found _ (sym c.target-task.ensures.weak ∙ c.if-weak.false) c.if-found-eq0.false (c.give_token-found.ensures.found ∙ ap (λ ns. c.give_token-found.result ∷ ns) c.learn.ensures.found)

pub deal_fresh-requires-clause-made : goal.deal_fresh-requires-clause-made
deal_fresh-requires-clause-made g c =
    let net_is : arc_value c.self.inside.words.net ≡ c.args.self.now.net = search rules in
    let net = c.args.self.now.net in
    let view : c.give_token-found.new.seat.me.0 ≡ gave net c.args.edge c.give_token-found.result c.args.seat.now.me.0 =
    c.give_token-found.ensures.view.0 ∙ (λ i. gave (net_is i) c.args.edge c.give_token-found.result (c.learn.ensures.view.0 i)) in
    let fits = subst (λ (n : NetRows). AllFitNotes n c.args.seat.now.me.0) net_is c.learn.ensures.fits in
    subst (λ v. HasMade c.target-task.result.task (Weak c.args.edge) v) (sym view)
    (gave_made net c.args.edge c.target-task.result.task c.give_token-found.result c.args.seat.now.me.0 (owes_next net c.args.edge c.args.seat.now.me.0 c.requires.ready fits)
    (sym c.target-task.ensures.weak ∙ c.if-weak.true) c.target-task.ensures.task)
