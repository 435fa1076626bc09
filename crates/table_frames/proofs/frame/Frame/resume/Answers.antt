use Rattle.std.proofs.Common.{Some, refl, sym, ap, ◌∙◌, subst}
use Rattle.std.specs.Prelude.{Option}
use Rattle.run_frame.specs.declared.run.FrameRun.{FrameRun}
use Rattle.table_runs.specs.Spans.{spans_made}
use Rattle.table_frames.specs.inside.FrameBatches.{HasBack}
use Rattle.std.specs.Arc.{arc_value}
use Rattle.std.proofs.lemmas.Result.{IfOk-weaker}
use Rattle.table_frames.specs.Frames.{BacklogView}
use Rattle.table_frames.proofs.Closing.{resumes}
use Rattle.table_frames.proofs.frame.Frame.resume.Goals as goal

pub hand_on-requires-clause-returned : goal.hand_on-requires-clause-returned
hand_on-requires-clause-returned g c κs within =
    subst (λ (r : Option (FrameRun g.row.J.Denot g.row.J-V.Denot)). HasBack (arc_value c.args.inner.parent) (spans_made r) (Some c.args.inner.spans)) (sym c.in_ok-attempt.ensures.inner) c.requires.inner.back

pub hand_on-requires-clause-one : goal.hand_on-requires-clause-one
hand_on-requires-clause-one g c κs within =
    let J = g.row.J.Denot in
    let V = g.row.J-V.Denot in
    ap (λ (b : BacklogView J V). b.fates) c.in_ok-make_room.ensures.ok ∙ ap (λ (b : BacklogView J V). b.fates) c.backlog.view_is ∙ ap (λ (b : BacklogView J V). b.fates) c.requires.none

pub returns-clause-ok : goal.returns-clause-ok
returns-clause-ok g c =
    let J = g.row.J.Denot in
    let V = g.row.J-V.Denot in
    let made = c.in_ok-attempt.ensures in
    let none = ap (λ (b : BacklogView J V). b.fates) c.in_ok-make_room.ensures.ok ∙ ap (λ (b : BacklogView J V). b.fates) c.backlog.view_is ∙ ap (λ (b : BacklogView J V). b.fates) c.requires.none in
    IfOk-weaker c.hand_on.result _ _ (λ released hands. resumes g.J.Job.meaning c.args.inner (arc_value c.args.inner.parent) c.in_ok-attempt.attempt c.make_room.new.self.backlog c.hand_on.new.batch.backlog released.items refl none made.inner made.again hands) c.hand_on.ensures.ok
