use Rattle.std.proofs.Common.{◌≡◌, subst}
use Rattle.table_frames.specs.Frames.{BacklogView}
use Rattle.table_frames.specs.inside.Overs.{KeepsFates}
use Rattle.table_frames.specs.declared.over.Over.TheVariants.{Inside}
use Rattle.table_frames.proofs.Closing.{brings_inner}
use Rattle.table_frames.proofs.frame.Frame.bring.Goals as goal

pub returns-in_ok-resume-in-Inside-clause-ok : goal.returns-in_ok-resume-in-Inside-clause-ok
returns-in_ok-resume-in-Inside-clause-ok g c =
    let meaning = g.J.Job.meaning in
    let old = c.args.backlog.now in
    let kept = c.in_ok-over.field-0 in
    let is : kept.over ≡ Inside c.in-Inside.inner = cc in
    let keeps = subst (λ (b : BacklogView g.row.J.Denot g.row.J-V.Denot). KeepsFates meaning b.frames b.fates kept) c.backlog.view_is c.in_ok-over.ensures.keeps in
    brings_inner meaning old.frames old.fates kept c.in-Inside.inner c.in_ok-resume-in-Inside.field-0 c.resume.new.backlog is keeps c.in_ok-resume-in-Inside.ensures.ok
