use Rattle.std.proofs.Common.{rules, ◌≡◌, ◌+◌, ◌++◌, Some, append_assoc, true, sym, ap, ◌∙◌, subst, arith}
use Rattle.std.specs.Prelude.{IfSome, Option}
use Rattle.std.specs.declared.result.Result.TheVariants.{Ok}
use Rattle.outside_io.specs.declared.list.NoMemory.{NoMemory}
use Rattle.join_tables.specs.Keeping.{IsLast}
use Rattle.join_tables.specs.declared.keeper.Remaining.{Remaining}
use Rattle.span_book.specs.SpanBooks.{SpansState}
use Rattle.table_runs.specs.OpenStarts.{IsStartOf}
use Rattle.table_runs.specs.RunKeys.{FrameKey, RunKeeperView, key_of}
use Rattle.table_runs.specs.Runs.{AreDoneIn}
use Rattle.table_runs.specs.Spans.{spans_done, spans_in, spans_inside, spans_kept}
use Rattle.table_frames.specs.inside.LockedRuns.{LockedRunView, TakesTurns, locked_run, noted_by}
use Rattle.table_frames.specs.declared.locked_run.Taken.TheVariants.{Kept}
use Rattle.table_frames.proofs.Taking.{same_done, same_spans, takes_kept}
use Rattle.table_frames.proofs.locked_run.LockedRun.take_in.Goals as goal

pub invariant_of-self-in_err-left : goal.invariant_of-self-in_err-left
invariant_of-self-in_err-left g c =
    let J = g.row.J.Denot in
    let V = g.row.J-V.Denot in
    let meaning = g.J.Job.meaning in
    let kept = c.self.inside.kept in
    let done = c.args.done.now in
    let same : c.keep.new.kept ≡ kept = c.in_err-left.ensures.err_kept in
    let own : key_of kept ≡ c.args.run.now = ap (λ (l : LockedRunView J V). key_of l.kept) c.self.view_is ∙ c.requires.run in
    let turns = same_done meaning c.args.run.now c.gather_all.new.done c.keep.new.done c.in_err-left.ensures.err c.in_ok-gather_all.ensures.done in
    let count : c.count_spans-count.result ≡ spans_in done.batch.fates = c.count_spans-count.ensures ∙ ap spans_in c.fates.ensures in
    let back : noted_by c.take.result ≡ spans_inside done = ap noted_by c.take.ensures.value ∙ c.requires.spans in
    let before : c.self.inside.spans.noted ≡ spans_kept kept + spans_done c.self.inside.aside = c.self.invariant.3 in
    let noted : c.note_all.new.spans.noted ≡ c.self.inside.spans.noted + c.count_spans-count.result + noted_by c.take.result = c.note_all.ensures.noted in
    let gathered : spans_done c.gather_all.new.done ≡ spans_done c.self.inside.aside + spans_done done = c.in_ok-gather_all.ensures.spans in
    let left : spans_done c.keep.new.done ≡ spans_done c.gather_all.new.done = same_spans c.gather_all.new.done c.keep.new.done c.in_err-left.ensures.err in
    let all : spans_kept c.keep.new.kept ≡ spans_kept kept = ap spans_kept same in (
      subst (λ (k : RunKeeperView J V). IfSome c.self.inside.start (IsStartOf meaning k.job)) (sym same) c.self.invariant.0,
      subst (λ (k : FrameKey J). AreDoneIn meaning k c.keep.new.done) (sym (ap key_of same ∙ own)) turns,
      ap (λ (k : RunKeeperView J V). k.book) same ∙ c.self.invariant.2 ∙ ap Some (sym c.note_all.ensures.book),
      omega arith,
    )

pub returns-clause-takes : goal.returns-clause-takes
returns-clause-takes g c =
    let J = g.row.J.Denot in
    let V = g.row.J-V.Denot in
    let meaning = g.J.Job.meaning in
    let kept = c.self.inside.kept in
    let done = c.args.done.now in
    let left = c.in_ok-left.left in
    let taken = c.in_ok-left.ensures in
    let new = locked_run c.keep.new.kept c.note_all.new.spans c.self.inside.start in
    let count : c.count_spans-count.result ≡ spans_in done.batch.fates = c.count_spans-count.ensures ∙ ap spans_in c.fates.ensures in
    let back : noted_by c.take.result ≡ spans_inside done = ap noted_by c.take.ensures.value ∙ c.requires.spans in
    let before : c.self.inside.spans.noted ≡ spans_kept kept + spans_done c.self.inside.aside = c.self.invariant.3 in
    let noted : c.note_all.new.spans.noted ≡ c.self.inside.spans.noted + c.count_spans-count.result + noted_by c.take.result = c.note_all.ensures.noted in
    let gathered : spans_done c.gather_all.new.done ≡ spans_done c.self.inside.aside + spans_done done = c.in_ok-gather_all.ensures.spans in
    let all : spans_kept c.keep.new.kept ≡ spans_kept kept + spans_done c.gather_all.new.done = taken.spans in
    let fates : c.keep.new.kept.keeper.fates ≡ (kept.keeper.fates ++ c.self.inside.aside.batch.fates) ++ done.batch.fates =
    taken.fates ∙ ap (λ fs. kept.keeper.fates ++ fs) c.in_ok-gather_all.ensures.fates ∙ sym (append_assoc kept.keeper.fates c.self.inside.aside.batch.fates done.batch.fates) in
    let on : c.has_all_back.result ≡ true = search rules in
    subst (λ (l : LockedRunView J V). TakesTurns meaning done.batch.fates l new (Kept left)) c.self.view_is
    (takes_kept meaning done.batch.fates (locked_run kept c.self.inside.spans c.self.inside.start) new left
    (record { earlier = kept.keeper.fates ++ c.self.inside.aside.batch.fates; fates_are = fates; found = taken.found })
    (λ is. record {
      tells = taken.all (subst (λ (l : Remaining). IsLast {E = NoMemory} (Ok l)) (sym is) tt);
      back = c.has_all_back.ensures on;
      spans = omega arith;
    }))
