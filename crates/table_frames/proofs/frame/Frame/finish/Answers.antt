use Rattle.std.proofs.Common.{◌≡◌, ◌∷◌, Some, refl, sym, ap, ◌∙◌, subst}
use Rattle.std.specs.Prelude.{IfSome}
use Rattle.std.specs.Arc.{arc_value}
use Rattle.join_tables.specs.Keeping.{TellsRun, entries_told}
use Rattle.span_book.specs.SpanBooks.{TallyState}
use Rattle.table_frames.specs.Frames.{frames_around}
use Rattle.table_runs.specs.JournalFacts.{HasEntries}
use Rattle.table_runs.specs.Spans.{spans_kept}
use Rattle.table_frames.specs.inside.LockedRuns.{IsLockedAt, LockKey, LockedRunView, frame_of}
use Rattle.table_runs.specs.OpenStarts.{IsStartOf}
use Rattle.table_frames.specs.inside.Overs.{IsOverOf}
use Rattle.table_frames.specs.declared.over.InnerOver.{InnerOver}
use Rattle.table_frames.specs.declared.over.Over.TheVariants.{Inside}
use Rattle.table_frames.proofs.Closing.{book_around, is_outermost, not_outermost, over_alone, over_inside, start_at}
use Rattle.table_frames.proofs.frame.Frame.finish.Goals as goal

pub finish-requires-after_bounds : goal.finish-requires-after_bounds
finish-requires-after_bounds g c κs within =
    let meaning = g.J.Job.meaning in
    subst (λ (l : LockedRunView g.row.J.Denot g.row.J-V.Denot). TellsRun (meaning.net l.kept.job) (meaning.limit l.kept.job) (entries_told l.kept.keeper.fates)) (sym c.locked.view_is) c.requires.whole.tells

pub end-spans-requires-clause-depth : goal.end-spans-requires-clause-depth
end-spans-requires-clause-depth g c =
    let V = g.row.J-V.Denot in
    let none = ap (λ (l : LockedRunView g.row.J.Denot V). l.start) (sym c.locked.view_is) ∙ c.in_default.is in
    ap (λ (l : LockedRunView g.row.J.Denot V). l.spans.depth) c.locked.view_is ∙ is_outermost c.args.self.now c.args.locked c.requires.key none

pub end-spans-requires-clause-all : goal.end-spans-requires-clause-all
end-spans-requires-clause-all g c = subst (λ (l : LockedRunView g.row.J.Denot g.row.J-V.Denot). l.spans.back ≡ l.spans.opened) (sym c.locked.view_is) c.requires.whole.back

pub unreachable-requires : goal.unreachable-requires
unreachable-requires g c =
    let V = g.row.J-V.Denot in
    let at = subst (λ fs. IsLockedAt {V = V} fs c.args.locked) (sym c.self.view_is) c.requires.key in
    let some = ap (λ (l : LockedRunView g.row.J.Denot V). l.start) (sym c.locked.view_is) ∙ c.in-Some.is in
    not_outermost c.self.inside.run (frames_around c.self.inside.parent) c.args.locked c.in-Some.start at some (ap frames_around c.in_default-parent.is)

pub unreachable-unreachable : goal.unreachable-unreachable
unreachable-unreachable g c = c.unreachable.result

pub same-start : goal.same-start
same-start g c = refl

pub returns-in_default-clause-over : goal.returns-in_default-clause-over
returns-in_default-clause-over g c =
    let J = g.row.J.Denot in
    let V = g.row.J-V.Denot in
    let run = c.in_ok-run.run' in
    let tally = c.end-spans.result in
    let finished = c.in_ok-run.ensures in
    let whole = c.locked.view_is in
    let none = ap (λ (l : LockedRunView J V). l.start) (sym whole) ∙ c.in_default.is in
    let job = finished.job ∙ ap (λ (l : LockedRunView J V). l.kept.job) whole in
    let entries = subst (λ (l : LockedRunView J V). HasEntries run l.kept.keeper.fates) whole finished.entries in
    let book : c.args.locked.kept.book ≡ Some tally.book = ap (λ (l : LockedRunView J V). l.kept.book) (sym whole) ∙ c.locked.invariant.2 ∙ ap (λ (t : TallyState). Some t.book) (sym c.end-spans.ensures) in
    let noted : c.locked.inside.spans.noted ≡ spans_kept c.locked.inside.kept = subst (λ (l : LockedRunView J V). l.spans.noted ≡ spans_kept l.kept) (sym whole) c.requires.whole.spans in
    over_alone g.J.Job.meaning c.args.self.now c.args.locked (record { run = run; spans = tally }) c.requires.key none finished.kept job entries book
    (record { tellers = ap (λ (t : TallyState). t.tellers) c.end-spans.ensures; told = ap (λ (t : TallyState). t.told) c.end-spans.ensures; noted = ap (λ (t : TallyState). t.noted) c.end-spans.ensures ∙ noted ∙ sym finished.spans })

pub returns-clause-over : goal.returns-clause-over
returns-clause-over g c =
    let J = g.row.J.Denot in
    let V = g.row.J-V.Denot in
    let meaning = g.J.Job.meaning in
    let locked = c.args.locked in
    let around = frames_around c.self.inside.parent in
    let run = c.in_ok-run.run' in
    let spans = c.locked.inside.spans in
    let finished = c.in_ok-run.ensures in
    let whole = c.locked.view_is in
    let at = subst (λ fs. IsLockedAt {V = V} fs locked) (sym c.self.view_is) c.requires.key in
    let some = ap (λ (l : LockedRunView J V). l.start) (sym whole) ∙ c.in-Some.is in
    let start = subst (λ (l : LockedRunView J V). IfSome l.start (IsStartOf meaning l.kept.job)) whole c.locked.invariant.0 in
    let parent : arc_value c.in_ok-parent.parent ≡ around = c.in_ok-parent.ensures ∙ ap frames_around (sym c.in-Some-parent.is) in
    let job = finished.job ∙ ap (λ (l : LockedRunView J V). l.kept.job) whole in
    let entries = subst (λ (l : LockedRunView J V). HasEntries run l.kept.keeper.fates) whole finished.entries in
    let inside = start_at c.in-Some.start.frame around (sym (ap frame_of some) ∙ ap (λ (k : LockKey J). k.around) at) in
    let own : c.self.inside.run.book ≡ Some spans.book = sym (ap (λ (k : LockKey J). k.frame.book) at) ∙ ap (λ (l : LockedRunView J V). l.kept.book) (sym whole) ∙ c.locked.invariant.2 in
    let book = book_around c.self.inside.run around _ inside ∙ c.self.invariant.4.same ∙ own in
    let back = subst (λ (l : LockedRunView J V). l.spans.back ≡ l.spans.opened) (sym whole) c.requires.whole.back in
    let noted : spans.noted ≡ spans_kept c.locked.inside.kept = subst (λ (l : LockedRunView J V). l.spans.noted ≡ spans_kept l.kept) (sym whole) c.requires.whole.spans in
    let inner : InnerOver J V = record { parent = c.in_ok-parent.parent; start = c.in-Some.start; run = run; spans = spans } in
    let over = over_inside meaning c.self.inside.run around locked inner at some start parent finished.kept job entries (sym (ap (λ (l : LockedRunView J V). l.spans) whole)) book back (noted ∙ sym finished.spans) in
    subst (λ fs. IsOverOf meaning fs locked.kept.keeper.fates (Inside inner)) c.self.view_is over

pub same-spans-2 : goal.same-spans-2
same-spans-2 g c = refl
