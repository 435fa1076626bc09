use Rattle.std.proofs.Common.{◌≡◌, [], ◌∷◌, ◌++◌, sym, ap, ◌∙◌, subst}
use Rattle.std.proofs.lemmas.List.Elements.{All-push}
use Rattle.join_tables.specs.States.{FreshState}
use Rattle.table_runs.specs.Attempts.{IsAgain, release_tried}
use Rattle.table_runs.specs.Runs.{AreOf}
use Rattle.table_runs.proofs.Making.{none_again, concluded}
use Rattle.table_runs.proofs.table_run.TableRun.conclude.Goals as goal

pub returns-clause-made : goal.returns-clause-made
returns-clause-made g c =
    let n = c.args.self.now.table in
    let tried = release_tried n c.args.attempt.outcome in
    let again = subst (IsAgain n tried.task tried.cause) c.in-Some.is c.requires.attempt.again in
    let items = c.push_reserved.ensures.items ∙ ap (λ (f : FreshState). c.close-spent.new.made.items ++ f ∷ []) c.fresh.ensures in
    subst (AreOf n) (sym items) (All-push (λ (f : FreshState). f.table ≡ n) c.close-spent.new.made.items c.in-Some.again c.close-spent.ensures.made (ap (λ (f : FreshState). f.table) again.1))

pub returns-in_default-clause-uses : goal.returns-in_default-clause-uses
returns-in_default-clause-uses g c =
    let n = c.args.self.now.table in
    let outcome = c.args.attempt.outcome in
    let tried = release_tried n outcome in
    concluded (g.J.Job.meaning.net c.args.self.now.job) n outcome c.close-spent.result.fate c.args.made.now.items c.close-spent.new.made.items c.close-spent.new.made.items c.close-spent.ensures.of c.close-spent.ensures.gives
    (none_again n tried.task tried.cause c.close-spent.new.made.items)
