use Rattle.std.proofs.Common.{rules, ◌≡◌, [], refl, ap, ◌∙◌, subst}
use Rattle.std.specs.Arc.{arc_value}
use Rattle.semaphore_turns.specs.WaitingTurns.{release_of}
use Rattle.semaphore_turns.specs.WokenTurns.{ParksTurn}
use Rattle.semaphore_turns.specs.declared.parks.Parking.TheVariants as parking
use Rattle.table_frames.specs.declared.step_results.State.TheVariants as state
use Rattle.table_frames.specs.Frames.{AtFrame, BacklogView, backlog_view, release_in}
use Rattle.table_runs.specs.RunKeys.{table_in}
use Rattle.table_frames.proofs.Concluding.{ok_steps, parks_release, same_release}
use Rattle.table_frames.proofs.Settling.{parked_made}
use Rattle.table_frames.proofs.frame.Frame.park.Goals as goal

pub hand_out-requires-clause-fresh : goal.hand_out-requires-clause-fresh
hand_out-requires-clause-fresh g c κs within =
    let frames = arc_value c.args.frame in
    let here : c.deref-2.result.now ≡ frames = search rules in
    let parks = subst (λ fs. AtFrame fs (λ key. ParksTurn {V = g.row.J-V.Denot} (table_in g.J.Job.meaning key) c.args.taken.turn (parking.Parked c.in-Parked.turn) c.with_turns.new.made.items c.park_turn.new.made.items)) here (subst (λ p. AtFrame c.deref-2.result.now (λ key. ParksTurn {V = g.row.J-V.Denot} (table_in g.J.Job.meaning key) c.args.taken.turn p c.with_turns.new.made.items c.park_turn.new.made.items)) c.in-Parked.is c.in_ok-turn.ensures.parks) in
    parked_made g.J.Job.meaning frames c.args.taken c.in-Parked.turn c.with_turns.new.made.items c.park_turn.new.made.items c.add_again.new.made.items c.requires.taken (c.with_turns.ensures.same ∙ c.backlog.invariant) parks c.add_again.ensures.made

pub returns-in-Taken-clause-ok : goal.returns-in-Taken-clause-ok
returns-in-Taken-clause-ok g c =
    let J = g.row.J.Denot in
    let V = g.row.J-V.Denot in
    let frames = arc_value c.args.frame in
    let here : c.deref-2.result.now ≡ frames = search rules in
    let parks = subst (λ fs. AtFrame fs (λ key. ParksTurn {V = V} (table_in g.J.Job.meaning key) c.args.taken.turn (parking.Taken c.in-Taken.turn) c.with_turns.new.made.items c.park_turn.new.made.items)) here (subst (λ p. AtFrame c.deref-2.result.now (λ key. ParksTurn {V = V} (table_in g.J.Job.meaning key) c.args.taken.turn p c.with_turns.new.made.items c.park_turn.new.made.items)) c.in-Taken.is c.in_ok-turn.ensures.parks) in
    let same = ap (λ (b : BacklogView J V). b.fates) c.in_ok-make_room.ensures.ok ∙ ap (λ (b : BacklogView J V). b.fates) c.backlog.view_is in
    let release = ap (release_in frames) (same_release g.J.Job.meaning frames c.args.taken.turn c.in-Taken.turn c.with_turns.new.made.items c.park_turn.new.made.items parks) in
    ok_steps g.J.Job.meaning _ (release_in frames (release_of c.args.taken.turn)) c.args.backlog.now c.make_room.new.self.backlog c.work.new.backlog c.work.result release same c.work.ensures.ok

pub returns-in-Parked-clause-ok : goal.returns-in-Parked-clause-ok
returns-in-Parked-clause-ok g c =
    let J = g.row.J.Denot in
    let V = g.row.J-V.Denot in
    let frames = arc_value c.args.frame in
    let here : c.deref-2.result.now ≡ frames = search rules in
    let none = c.with_turns.ensures.same ∙ c.backlog.invariant in
    let parks = subst (λ fs. AtFrame fs (λ key. ParksTurn {V = V} (table_in g.J.Job.meaning key) c.args.taken.turn (parking.Parked c.in-Parked.turn) [] c.park_turn.new.made.items)) here
    (subst (λ none. AtFrame c.deref-2.result.now (λ key. ParksTurn {V = V} (table_in g.J.Job.meaning key) c.args.taken.turn (parking.Parked c.in-Parked.turn) none c.park_turn.new.made.items)) none
    (subst (λ p. AtFrame c.deref-2.result.now (λ key. ParksTurn {V = V} (table_in g.J.Job.meaning key) c.args.taken.turn p c.with_turns.new.made.items c.park_turn.new.made.items)) c.in-Parked.is c.in_ok-turn.ensures.parks)) in
    parks_release g.J.Job.meaning frames c.args.taken c.in-Parked.turn c.args.backlog.now _ c.park_turn.new.made.items c.add_again.new.made.items (record { released = c.hand_out.result; state = state.Parked c.in-Parked.turn }) c.requires.taken parks c.add_again.ensures.made (c.in_ok-make_room.ensures.ok ∙ ap (backlog_view frames) (ap (λ (b : BacklogView J V). b.fates) c.backlog.view_is)) c.hand_out.ensures.releases refl
