use Rattle.std.proofs.Common.{rules, map, sym, ap, subst}
use Rattle.join_words.specs.Ins.{found_of, parts_of}
use Rattle.join_tables.specs.States.{fresh_state}
use Rattle.table_runs.specs.AllowedFates.{work_with}
use Rattle.table_runs.specs.RunKeys.{FrameKey}
use Rattle.table_runs.specs.inside.StartedWork.{Starts}
use Rattle.table_runs.specs.declared.attempt.Outcome.TheVariants.{Faults}
use Rattle.table_runs.specs.declared.run_work.Started.TheVariants.{Outcome}
use Rattle.table_runs.proofs.Starting.{fault_allowed, may_tell}
use Rattle.table_runs.proofs.table_run.TableRun.work.Goals as goal

pub returns-in-Err-Fault : goal.returns-in-Err-Fault
returns-in-Err-Fault g c =
    let J = g.row.J.Denot in
    let meaning = g.J.Job.meaning in
    let frame = c.args.self.now in
    let job = frame.job in
    let r = c.args.running in
    let why = c.in-Err-Fault.why in
    let keeps = subst g.J.Job.keeps (ap (λ (k : FrameKey J). k.job) c.self.view_is) c.self.invariant.1 in
    let faults : meaning.faults job r.task (map found_of (parts_of r.ins)) why = search rules in
    let own = (g.met.J.Job g.world.𝓛 g.world.𝓜 g.world.𝓡 ((λ s x. x), (λ x. x), (λ x. x), λ x. x)).faults_own job r.task _ why keeps faults in
    subst (λ w. Starts meaning frame (fresh_state r.table r.task r.cause) (Outcome (Faults r w))) (sym c.in-Err-Fault.why-is) (
      record {
        table = c.requires.table;
        credited = c.requires.may.claims.credited;
        tells = may_tell why r.units.refused own;
        allowed = fault_allowed meaning job (work_with r.task r.ins) why own faults;
      },
      λ k. fresh_state (sym c.requires.table k) r.task r.cause,
    )
