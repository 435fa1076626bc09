use Rattle.std.proofs.Common.{◌≡◌, ◌∷◌, [], Some, length, map, sym, ap, ◌∙◌, subst, arith}
use Rattle.std.specs.Arc.{arc_value}
use Rattle.std.proofs.lemmas.List.{length-map}
use Rattle.span_book.specs.SpanBooks.{TallyState, name_of}
use Rattle.table_runs.specs.RunKeys.{FrameKey}
use Rattle.table_frames.specs.Frames.{release_in}
use Rattle.table_frames.specs.declared.closed_run.ClosedRun.{ClosedRun}
use Rattle.table_frames.specs.declared.step_results.State.TheVariants.{Closed, Went}
use Rattle.table_frames.proofs.Concluding.{begins_frame}
use Rattle.table_runs.proofs.Beginning.{none_in}
use Rattle.table_frames.proofs.frame.Frame.begin.Goals as goal

pub returns-then-count-eq0-clause-begins : goal.returns-then-count-eq0-clause-begins
returns-then-count-eq0-clause-begins g c =
    let J = g.row.J.Denot in
    let meaning = g.J.Job.meaning in
    let begun = c.in_ok-run.field-0 in
    let begins = c.in_ok-run.ensures.begins in
    let spans = c.args.spans in
    let closed : ClosedRun J g.row.J-V.Denot = record { run = c.in_ok-finish.field-0; spans = spans } in
    let none = none_in begun.fresh.items (omega (arith, begun.fresh.ok.0, c.len-count.ensures, c.if-count-eq0.true)) in
    begins_frame meaning (arc_value c.args.job) (name_of (arc_value c.args.book)) begun (record { released = c.new.result; state = Closed closed }) begins c.in_ok-run.ensures.book
    (c.new.ensures.items ∙ ap (map (release_in (begun.run ∷ []))) (sym none))
    (record {
      kept = c.in_ok-finish.ensures.kept;
      job = ap (λ (k : FrameKey J). Some k.job) (sym begins.kept) ∙ ap Some (sym c.in_ok-finish.ensures.job);
      book = c.in_ok-run.ensures.book ∙ sym (ap (λ (t : TallyState). Some t.book) c.requires);
      account = record {
        tellers = ap (λ (t : TallyState). t.tellers) c.requires;
        told = ap (λ (t : TallyState). t.told) c.requires;
        noted = ap (λ (t : TallyState). t.noted) c.requires ∙ sym (c.in_ok-finish.ensures.spans ∙ begins.no_spans);
      };
    })

pub returns-clause-begins : goal.returns-clause-begins
returns-clause-begins g c =
    let meaning = g.J.Job.meaning in
    let begun = c.in_ok-run.field-0 in
    begins_frame meaning (arc_value c.args.job) (name_of (arc_value c.args.book)) begun (record { released = c.hand_out.result; state = Went }) c.in_ok-run.ensures.begins c.in_ok-run.ensures.book
    (subst (λ ks. c.hand_out.result.items ≡ map (release_in ks) begun.fresh.items) c.in_ok-frame.ensures c.hand_out.ensures.releases) tt

pub returns-clause-closed : goal.returns-clause-closed
returns-clause-closed g c =
    let fresh = c.in_ok-run.field-0.fresh in
    let same : length c.hand_out.result.items ≡ length fresh.items = ap length c.hand_out.ensures.releases ∙ length-map fresh.items (release_in (arc_value c.in_ok-frame.frame)) in (
      λ never. absurd never,
      λ none. c.if-count-eq0.false (omega (arith, fresh.ok.0, c.len-count.ensures, same, ap length none)),
    )
