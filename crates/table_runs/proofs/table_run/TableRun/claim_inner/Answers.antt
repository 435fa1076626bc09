use Rattle.std.proofs.Common.{rules, ◌≡◌, true, Some, sym, ap, ◌∙◌, subst}
use Rattle.task_graph.specs.Net.{out_edges}
use Rattle.join_tables.specs.States.{RunningState}
use Rattle.semaphore_turns.specs.UnitClaims.{ClaimsUnits}
use Rattle.table_runs.specs.AllowedFates.{EndAllowed}
use Rattle.table_runs.proofs.Starting.{same_work}
use Rattle.table_runs.proofs.table_run.TableRun.claim_inner.Goals as goal

pub returns-in_ok-gives-in-All-clause-outcome : goal.returns-in_ok-gives-in-All-clause-outcome
returns-in_ok-gives-in-All-clause-outcome g c =
    let meaning = g.J.Job.meaning in
    let job = c.args.self.now.job in
    let r = c.args.running in
    let q = c.in-All.running in
    let gives = c.in_ok-gives-in-All.gives in
    let claims = subst (ClaimsUnits c.self.inside.table r) c.in-All.is c.claim_units.ensures in
    let task = ap (λ (x : RunningState g.row.J-V.Denot). x.task) claims.0 in
    let is : gives ≡ out_edges c.args.net.now q.task = search rules in
    c.ending.ensures.outcome (Some c.args.inner.now) (subst (λ w. EndAllowed meaning job w c.args.value gives true (Some c.args.inner.now)) (sym (same_work r q claims.0)) (record {
      answered = c.requires.open.answered;
      fine = c.requires.fine;
      gathered = c.requires.gathered;
      all_edges = is ∙ ap (out_edges c.args.net.now) task ∙ ap (λ net. out_edges net r.task) c.requires.net;
    }))
