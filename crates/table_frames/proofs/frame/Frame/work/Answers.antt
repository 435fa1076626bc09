use Rattle.std.proofs.Common.{rules, ◌≡◌, refl, ap, ◌∙◌}
use Rattle.std.proofs.lemmas.Result.{IfOk-weaker}
use Rattle.std.specs.Arc.{arc_value}
use Rattle.semaphore_turns.specs.WaitingTurns.{release_of}
use Rattle.table_frames.specs.Frames.{BacklogView, backlog_view}
use Rattle.table_frames.specs.declared.step_results.State.TheVariants.{Went}
use Rattle.table_frames.proofs.Concluding.{has_table, opens_release, steps_release}
use Rattle.table_frames.proofs.Opening.{none_made, opened_at, tries_done, tries_inner}
use Rattle.table_frames.proofs.frame.Frame.work.Goals as goal

pub hand_on-requires-clause-attempt : goal.hand_on-requires-clause-attempt
hand_on-requires-clause-attempt g c κs within =
    let frames = arc_value c.args.frame in
    let here : c.deref.result.now ≡ frames = search rules in
    (tries_done g.J.Job.meaning frames c.deref.result.now (release_of c.args.taken.turn) c.in_ok-attempt.field-0 c.in-Done.attempt here c.in-Done.is c.in_ok-attempt.ensures).0

pub hand_on-requires-clause-returned : goal.hand_on-requires-clause-returned
hand_on-requires-clause-returned g c κs within =
    let frames = arc_value c.args.frame in
    let here : c.deref.result.now ≡ frames = search rules in
    none_made g.J.Job.meaning frames c.in-Done.attempt.inner (tries_done g.J.Job.meaning frames c.deref.result.now (release_of c.args.taken.turn) c.in_ok-attempt.field-0 c.in-Done.attempt here c.in-Done.is c.in_ok-attempt.ensures).2

pub open-requires-after_bounds : goal.open-requires-after_bounds
open-requires-after_bounds g c κs within =
    let frames = arc_value c.args.frame in
    let release = release_of c.args.taken.turn in
    let here : c.deref.result.now ≡ frames = search rules in
    opened_at g.J.Job.meaning frames release c.in-Inner.inner (tries_inner g.J.Job.meaning frames c.deref.result.now release c.in_ok-attempt.field-0 c.in-Inner.inner here c.in-Inner.is c.in_ok-attempt.ensures)

pub returns-in_ok-hand_on-in-Done-clause-ok : goal.returns-in_ok-hand_on-in-Done-clause-ok
returns-in_ok-hand_on-in-Done-clause-ok g c =
    let J = g.row.J.Denot in
    let V = g.row.J-V.Denot in
    let meaning = g.J.Job.meaning in
    let frames = arc_value c.args.frame in
    let release = release_of c.args.taken.turn in
    let attempt = c.in-Done.attempt in
    let here : c.deref.result.now ≡ frames = search rules in
    let tries = tries_done meaning frames c.deref.result.now release c.in_ok-attempt.field-0 attempt here c.in-Done.is c.in_ok-attempt.ensures in
    let hands = c.in_ok-hand_on-in-Done.ensures.ok in
    let same = ap (λ (b : BacklogView J V). b.fates) c.in_ok-make_room.ensures.ok ∙ ap (λ (b : BacklogView J V). b.fates) c.backlog.view_is in
    steps_release meaning frames release attempt c.args.backlog.now c.make_room.new.self.backlog c.hand_on.new.batch.backlog hands.made (record { released = c.in_ok-hand_on-in-Done.field-0; state = Went }) (has_table frames c.args.taken c.requires.taken) same hands.concludes tries.1 tries.2 hands.released_are refl

pub returns-in-Inner-clause-ok : goal.returns-in-Inner-clause-ok
returns-in-Inner-clause-ok g c =
    let J = g.row.J.Denot in
    let V = g.row.J-V.Denot in
    let meaning = g.J.Job.meaning in
    let frames = arc_value c.args.frame in
    let release = release_of c.args.taken.turn in
    let inner = c.in-Inner.inner in
    let here : c.deref.result.now ≡ frames = search rules in
    let tries = tries_inner meaning frames c.deref.result.now release c.in_ok-attempt.field-0 inner here c.in-Inner.is c.in_ok-attempt.ensures in
    let backlog = c.in_ok-make_room.ensures.ok ∙ ap (λ (b : BacklogView J V). backlog_view frames b.fates) c.backlog.view_is in
    IfOk-weaker c.open.result _ _ (λ stepped opens. opens_release meaning frames release inner c.args.backlog.now c.make_room.new.self.backlog stepped tries opens backlog) c.open.ensures
