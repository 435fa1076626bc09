use Rattle.std.proofs.Common.{rules, ◌≡◌, false, None, sym, ap, ◌∙◌, subst}
use Rattle.task_graph.specs.Net.{out_edges}
use Rattle.join_tables.specs.States.{RunningState}
use Rattle.semaphore_turns.specs.UnitClaims.{ClaimsUnits}
use Rattle.run_frame.specs.WorkRule.{gives_of}
use Rattle.table_runs.specs.AllowedFates.{EndAllowed}
use Rattle.table_runs.proofs.Starting.{same_work}
use Rattle.table_runs.proofs.table_run.TableRun.claim.Goals as goal

pub returns-in_ok-gives-in-All-clause-outcome : goal.returns-in_ok-gives-in-All-clause-outcome
returns-in_ok-gives-in-All-clause-outcome g c =
    let meaning = g.J.Job.meaning in
    let job = c.args.self.now.job in
    let r = c.args.running in
    let q = c.in-All.running in
    let gives = c.in_ok-gives-in-All.gives in
    let claims = subst (ClaimsUnits c.self.inside.table r) c.in-All.is c.claim_units.ensures in
    let task = ap (λ (x : RunningState g.row.J-V.Denot). x.task) claims.0 in
    let is : gives ≡ gives_of (out_edges c.args.net.now q.task) c.args.answer = search rules in
    c.ending.ensures.outcome None (subst (λ w. EndAllowed meaning job w c.args.value gives false None) (sym (same_work r q claims.0)) (record {
      answer = c.args.answer;
      allowed = c.requires.answers;
      chosen = is ∙ ap (λ t. gives_of (out_edges c.args.net.now t) c.args.answer) task ∙ ap (λ net. gives_of (out_edges net r.task) c.args.answer) c.requires.net;
    }))
