use Rattle.std.proofs.Common.{◌≡◌, ◌+◌, ◌≤◌, [], ◌∷◌, ◌++◌, length, vec_capacity, vec_len, refl, sym, ap, ◌∙◌, subst, arith}
use Rattle.task_graph.specs.Net.{AreSemaphoresOf}
use Rattle.std.specs.Prelude.{All, Option}
use Rattle.run_frame.specs.declared.run.FrameRun.{FrameRun}
use Rattle.table_runs.specs.Spans.{spans_made}
use Rattle.table_frames.specs.inside.FrameBatches.{HasBack}
use Rattle.std.proofs.lemmas.List.Elements.{All-nil}
use Rattle.join_tables.specs.States.{FreshState}
use Rattle.table_runs.specs.AllowedFates.{IsAllowed}
use Rattle.table_frames.specs.Frames.{AtFrame, HasTable, IsInnermost, backlog_view}
use Rattle.table_runs.specs.RunKeys.{table_in}
use Rattle.semaphore_turns.specs.WokenTurns.{Wakes}
use Rattle.table_frames.proofs.Settling.{woken_of}
use Rattle.table_runs.specs.StepReleases.{GivesEdges, Uses, given_by}
use Rattle.table_frames.specs.inside.TriedReleases.{IsAttemptAt}
use Rattle.table_runs.specs.Attempts.{release_tried, room_due, units_due}
use Rattle.table_runs.specs.Runs.{AreOf}
use Rattle.table_frames.proofs.frame.Frame.conclude.Goals as goal

pub conclude-turn-requires-clause-attempt : goal.conclude-turn-requires-clause-attempt
conclude-turn-requires-clause-attempt g c κs within = subst (λ fs. IsAttemptAt g.J.Job.meaning fs c.args.attempt) (sym c.self.view_is) c.requires.attempt

pub conclude-turn-requires-clause-made : goal.conclude-turn-requires-clause-made
conclude-turn-requires-clause-made g c κs within = subst (AreOf c.self.inside.run.table) (sym c.requires.none) (All-nil (λ (f : FreshState). f.table ≡ c.self.inside.run.table))

pub conclude-turn-requires-clause-room : goal.conclude-turn-requires-clause-room
conclude-turn-requires-clause-room g c κs within =
    let room = subst (λ fs. AtFrame fs (λ key. vec_len c.args.made.now + room_due c.args.attempt + length (units_due (g.J.Job.meaning.net key.job) c.args.attempt.outcome) ≤ vec_capacity c.args.made.now)) (sym c.self.view_is) c.requires.capacity in
    omega (arith, room)

pub add-requires-clause-frame : goal.add-requires-clause-frame
add-requires-clause-frame g c κs within = subst (IsInnermost c.self.inside.run) (sym (c.requires.frames ∙ sym c.self.view_is)) refl

pub add-requires-clause-table : goal.add-requires-clause-table
add-requires-clause-table g c κs within = c.conclude-turn.ensures.done.table

pub add-requires-clause-allowed : goal.add-requires-clause-allowed
add-requires-clause-allowed g c κs within = c.conclude-turn.ensures.done.allowed

pub add-requires-clause-room : goal.add-requires-clause-room
add-requires-clause-room g c κs within = c.requires.room

pub wake-requires-clause-sems : goal.wake-requires-clause-sems
wake-requires-clause-sems g c κs within = subst (λ fs. AtFrame fs (λ key. AreSemaphoresOf (g.J.Job.meaning.net key.job) c.units_back-back.result.now)) c.self.view_is c.units_back-back.ensures.sems

pub wake-requires-clause-room : goal.wake-requires-clause-room
wake-requires-clause-room g c κs within =
    let room = subst (λ fs. AtFrame fs (λ key. vec_len c.args.made.now + room_due c.args.attempt + length (units_due (g.J.Job.meaning.net key.job) c.args.attempt.outcome) ≤ vec_capacity c.args.made.now)) (sym c.self.view_is) c.requires.capacity in
    omega (arith, room, c.conclude-turn.ensures.few, c.conclude-turn.ensures.capacity, ap length c.units_back-back.ensures.back)

pub returns-clause-fresh : goal.returns-clause-fresh
returns-clause-fresh g c =
    let wakes = subst (λ fs. AtFrame fs (λ key. Wakes (table_in g.J.Job.meaning key) c.units_back-back.result.now c.conclude-turn.new.made.items c.wake.new.made.items)) (sym c.self.view_is) c.wake.ensures.wakes in
    subst (λ fs. All (λ (f : FreshState). HasTable fs f.table) c.wake.new.made.items) c.self.view_is (woken_of (table_in g.J.Job.meaning c.self.inside.run) c.units_back-back.result.now c.conclude-turn.new.made.items c.wake.new.made.items c.conclude-turn.ensures.made wakes)

pub returns-clause-few : goal.returns-clause-few
returns-clause-few g c =
    subst (λ fs. AtFrame fs (λ key. vec_len c.wake.new.made ≤ vec_len c.args.made.now + room_due c.args.attempt + length (units_due (g.J.Job.meaning.net key.job) c.args.attempt.outcome))) c.self.view_is
    (omega (arith, c.wake.ensures.few, c.conclude-turn.ensures.few, ap length c.units_back-back.ensures.back))

pub returns-clause-concludes : goal.returns-clause-concludes
returns-clause-concludes g c =
    let frame = c.self.inside.run in
    let fate = c.conclude-turn.result.spent.fate in
    record {
      frame = frame;
      around = _;
      frames_are = sym c.self.view_is;
      fate = fate;
      allowed = subst (IsAllowed g.J.Job.meaning frame.job fate) c.conclude-turn.ensures.inner c.conclude-turn.ensures.done.allowed;
      journal = c.conclude-turn.ensures.done.journal;
      by_end = c.conclude-turn.new.made.items;
      uses = subst (λ b. Uses (g.J.Job.meaning.net frame.job) (release_tried frame.table c.args.attempt.outcome) fate b c.conclude-turn.new.made.items) c.requires.none c.conclude-turn.ensures.uses;
      edges = λ none. subst (λ b. GivesEdges (g.J.Job.meaning.net frame.job) frame.table (given_by fate) b c.conclude-turn.new.made.items) c.requires.none (c.conclude-turn.ensures.edges none);
      wakes = subst (λ sems. Wakes (table_in g.J.Job.meaning frame) sems c.conclude-turn.new.made.items c.wake.new.made.items) c.units_back-back.ensures.back (subst (λ fs. AtFrame fs (λ key. Wakes (table_in g.J.Job.meaning key) c.units_back-back.result.now c.conclude-turn.new.made.items c.wake.new.made.items)) (sym c.self.view_is) c.wake.ensures.wakes);
      backlog = c.add.ensures ∙ ap (λ fs. backlog_view fs (c.args.batch.now.backlog.fates ++ fate ∷ [])) c.requires.frames;
    }

pub add-requires-clause-returned : goal.add-requires-clause-returned
add-requires-clause-returned g c κs within =
    subst (λ fs. HasBack fs (spans_made c.conclude-turn.result.inner) c.args.returned) (sym c.requires.frames)
    (subst (λ (r : Option (FrameRun g.row.J.Denot g.row.J-V.Denot)). HasBack c.args.self.now (spans_made r) c.args.returned) (sym c.conclude-turn.ensures.inner) c.requires.returned)

pub add-requires-clause-one : goal.add-requires-clause-one
add-requires-clause-one g c κs within = c.requires.one
