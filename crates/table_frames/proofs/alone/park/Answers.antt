use Rattle.std.proofs.Common.{[], ◌∷◌, sym, ◌∙◌, subst}
use Rattle.std.specs.Prelude.{OnOk}
use Rattle.span_profile.specs.Watch.{TellsOn}
use Rattle.semaphore_turns.specs.WokenTurns.{ParksTurn}
use Rattle.table_runs.specs.RunKeys.{table_in}
use Rattle.table_runs.specs.Runs.{AreOf}
use Rattle.table_runs.specs.Spans.{spans_done}
use Rattle.table_frames.proofs.Settling.{added_of, parked_made}
use Rattle.table_frames.proofs.Taking.{same_done, same_spans}
use Rattle.table_frames.proofs.alone.park.Goals as goal

pub returns-clause-bench : goal.returns-clause-bench
returns-clause-bench g c =
    let meaning = g.J.Job.meaning in
    let run = c.args.run.now in
    let same = c.make_room.ensures.same in
    let parks = subst (λ p. ParksTurn {V = g.row.J-V.Denot} (table_in meaning run) c.args.taken.turn p c.make_room.new.self.made.items c.park.new.made.items) c.in-Parked.is c.in_ok-turn.ensures.parks in
    let made = parked_made meaning (run ∷ []) c.args.taken c.in-Parked.field-0 c.make_room.new.self.made.items c.park.new.made.items c.add_again.new.made.items c.requires.taken (same.made ∙ c.requires.bench.made) parks c.add_again.ensures.made in
    let ready = subst (AreOf run.table) (sym same.ready) c.requires.bench.ready in
    record {
      ready = added_of run.table c.make_room.new.self.ready.items c.add_again.new.made.items c.add_all.new.ready.items c.add_all.ensures.ready ready made;
      made = c.add_all.ensures.made;
      done = same_done meaning run c.args.bench.now.done c.make_room.new.self.done same.done c.requires.bench.done;
      yard = c.park.ensures.yard;
    }

pub returns-in-Taken-clause-told : goal.returns-in-Taken-clause-told
returns-in-Taken-clause-told g c =
    let same = same_spans c.args.bench.now.done c.make_room.new.self.done c.make_room.ensures.same.done in
    subst (λ n. OnOk c.work.result (TellsOn g.X.Watch.told n (spans_done c.work.new.bench.done) c.args.watcher.now c.work.new.watcher)) same c.work.ensures.told
