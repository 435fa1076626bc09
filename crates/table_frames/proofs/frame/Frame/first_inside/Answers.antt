use Rattle.std.proofs.Common.{rules, ◌≡◌, ◌≢◌, [], Some, length, refl, sym, ap, ◌∙◌, subst}
use Rattle.std.specs.Prelude.{All}
use Rattle.std.specs.Arc.{arc_value}
use Rattle.join_tables.specs.States.{FreshState}
use Rattle.table_frames.specs.Frames.{HasTable, book_of}
use Rattle.table_frames.specs.inside.ReleaseRooms.{HasRoom}
use Rattle.span_book.specs.SpanBooks.{SpansState}
use Rattle.table_runs.specs.RunKeys.{FrameKey}
use Rattle.table_frames.specs.inside.Books.{HasOneBook, IsOneBook}
use Rattle.table_frames.specs.inside.LockedRuns.{lock_key_in, lock_key_of}
use Rattle.table_frames.proofs.Opening.{inner_book, inner_key, inner_start, own_book, some_frame}
use Rattle.table_frames.proofs.frame.Frame.first_inside.Goals as goal

pub same-start : goal.same-start
same-start g c = refl

pub new-locked-requires-clause-start : goal.new-locked-requires-clause-start
new-locked-requires-clause-start g c κs within = inner_start g.J.Job.meaning c.args.begun c.args.start c.requires.begins c.requires.start

pub new-locked-requires-clause-book : goal.new-locked-requires-clause-book
new-locked-requires-clause-book g c κs within =
    let frames = arc_value c.args.frame.now in
    let here : c.deref-2.result.now ≡ frames = search rules in
    let book = subst (λ fs. book_of fs ≡ Some c.open_inside.result.book) here c.open_inside.ensures.book in
    ap (λ (k : FrameKey g.row.J.Denot). k.book) c.requires.begins.kept ∙ own_book g.J.Job.meaning frames c.args.begun.run c.args.start.frame c.open_inside.result.book c.requires.book c.requires.frame book (subst IsOneBook here c.open_inside.ensures.one)

pub new-locked-requires-clause-no_spans : goal.new-locked-requires-clause-no_spans
new-locked-requires-clause-no_spans g c κs within = (c.requires.begins.no_spans, ap (λ (s : SpansState). s.noted) c.open_inside.ensures.new)

pub new-requires-clause-key : goal.new-requires-clause-key
new-requires-clause-key g c κs within =
    let frames = arc_value c.args.frame.now in
    let parent = arc_value c.in_ok-parent.parent in
    let spans = c.open_inside.result in
    let here : c.deref-2.result.now ≡ frames = search rules in
    let depth = ap (λ (s : SpansState). s.depth) c.open_inside.ensures.new ∙ ap length here in
    let key = inner_key g.J.Job.meaning frames parent c.args.begun spans c.args.start c.in_ok-parent.ensures c.requires.begins depth c.requires.frame in
    subst (λ l. lock_key_of l ≡ lock_key_in c.args.begun.run parent) (sym c.new-locked.ensures) key

pub new-requires-clause-book : goal.new-requires-clause-book
new-requires-clause-book g c κs within =
    let frames = arc_value c.args.frame.now in
    let here : c.deref-2.result.now ≡ frames = search rules in
    let book = subst (λ fs. book_of fs ≡ Some c.open_inside.result.book) here c.open_inside.ensures.book in
    subst (HasOneBook c.args.begun.run) (sym c.in_ok-parent.ensures)
    (inner_book g.J.Job.meaning frames c.args.begun.run c.args.start.frame c.open_inside.result.book c.requires.book c.requires.frame book (subst IsOneBook here c.open_inside.ensures.one))

pub new-requires-clause-some : goal.new-requires-clause-some
new-requires-clause-some g c κs within = subst (λ fs. fs ≢ []) (sym c.in_ok-parent.ensures) (some_frame (arc_value c.args.frame.now) _ c.requires.frame)

pub hand_out-requires-clause-room : goal.hand_out-requires-clause-room
hand_out-requires-clause-room g c κs within = subst (λ n. HasRoom (arc_value c.in_ok-inner.inner) n c.in_ok-room.room) c.len.ensures c.in_ok-room.ensures

pub hand_out-requires-clause-fresh : goal.hand_out-requires-clause-fresh
hand_out-requires-clause-fresh g c κs within = subst (λ fs. All (λ (f : FreshState). HasTable fs f.table) c.args.begun.fresh.items) (sym c.in_ok-inner.ensures) c.requires.begins.fresh
