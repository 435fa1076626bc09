use Rattle.std.proofs.Common.{rules, ◌≡◌, ◌+◌, ◌-◌, ◌^◌, ◌≤◌, [], ◌∷◌, Option, min, length, vec_capacity, vec_len, sym, ap, ◌∙◌, subst, arith}
use Rattle.join_tables.specs.States.{TableState}
use Rattle.semaphore_park.specs.Parking.{YardKey, yard_key}
use Rattle.semaphore_turns.specs.WokenTurns.{Wakes}
use Rattle.table_runs.specs.RunKeys.{table_in}
use Rattle.table_runs.specs.Runs.{AreOf}
use Rattle.table_frames.proofs.Settling.{added_of, woken_of}
use Rattle.table_frames.proofs.Taking.{same_spans}
use Rattle.table_frames.proofs.Telling.{in_any_case, spans_more, tells_more, told_of_fate}
use Rattle.table_frames.specs.inside.Benches.{spans_told}
use Rattle.table_runs.specs.Spans.{spans_done, spans_in, spans_made}
use Rattle.join_tables.specs.declared.fates.Fate.{Fate}
use Rattle.run_frame.specs.declared.run.FrameRun.{FrameRun}
use Rattle.table_frames.proofs.alone.conclude.Goals as goal

pub wake_turns-requires-clause-room : goal.wake_turns-requires-clause-room
wake_turns-requires-clause-room g c =
    let room = c.in_ok-make_room.ensures.room.made in
    omega (arith, room, c.conclude-turn.ensures.few, c.conclude-turn.ensures.capacity, c.room.ensures.room)

pub returns-clause-bench : goal.returns-clause-bench
returns-clause-bench g c =
    let table = table_in g.J.Job.meaning c.args.run.now in
    let same = c.make_room.ensures.same in
    let yard = ap (λ y. yard_key y) same.yard ∙ c.requires.bench.yard in
    let home = ap (λ (k : YardKey TableState). k.home) yard in
    let wakes = subst (λ (h : TableState). Wakes h c.units_back-back.result.now c.conclude-turn.new.made.items c.wake_turns.new.ready.items) home c.wake_turns.ensures.wakes in
    let made = woken_of table c.units_back-back.result.now c.conclude-turn.new.made.items c.wake_turns.new.ready.items c.conclude-turn.ensures.made wakes in
    let ready = subst (AreOf c.args.run.now.table) (sym same.ready) c.requires.bench.ready in
    in_any_case c.tell.result (record {
      ready = added_of c.args.run.now.table c.make_room.new.self.ready.items c.wake_turns.new.ready.items c.add_all.new.ready.items c.add_all.ensures.ready ready made;
      made = c.add_all.ensures.made;
      done = c.gather.ensures.done;
      yard = c.wake_turns.ensures.yard ∙ yard;
    })

pub returns-clause-told : goal.returns-clause-told
returns-clause-told g c =
    let turn = c.conclude-turn.result in
    let old = spans_done c.args.bench.now.done in
    let inner = c.args.attempt.inner in
    let fate = c.fate.result.now in
    let span = c.span_of-span.result in
    let room : spans_done c.make_room.new.self.done ≡ old = same_spans c.args.bench.now.done c.make_room.new.self.done c.make_room.ensures.same.done in
    let more = spans_more c.make_room.new.self.done c.gather.new.done turn.spent.fate turn.inner c.gather.ensures.fates c.gather.ensures.inside in
    let made = ap (λ (run : Option (FrameRun g.row.J.Denot g.row.J-V.Denot)). spans_made run) c.conclude-turn.ensures.inner in
    let ended : spans_in (turn.spent.fate ∷ []) ≡ spans_in (fate ∷ []) = ap (λ (f : Fate g.row.J-V.Denot). spans_in (f ∷ [])) (sym c.fate.ensures) in
    let told : spans_told span ≡ spans_in (fate ∷ []) = ap (λ s. spans_told s) c.span_of-span.ensures ∙ told_of_fate _ fate in
    let all : spans_done c.gather.new.done ≡ old + spans_made inner + spans_told span = omega (arith, more, room, made, ended, told) in
    tells_more g.X.Watch.told c.tell.result (old + spans_made inner) (spans_done c.gather.new.done) (spans_told span) c.args.watcher.now c.tell.new.watcher all c.tell.ensures
