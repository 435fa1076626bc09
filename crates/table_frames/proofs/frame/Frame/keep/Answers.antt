use Rattle.std.proofs.Common.{◌≡◌, ◌+◌, ◌∷◌, Some, true, false, length, sym, ap, ◌∙◌, subst, arith}
use Rattle.std.specs.Prelude.{IfSome}
use Rattle.span_book.specs.SpanBooks.{name_of}
use Rattle.join_tables.specs.Keeping.{KeeperState}
use Rattle.join_tables.specs.declared.keeper.Remaining.{Remaining}
use Rattle.table_frames.specs.BacklogResults.{TakesIn}
use Rattle.table_frames.specs.Frames.{HasTable, book_of, frames_around}
use Rattle.table_frames.specs.inside.Overs.{IsEnd}
use Rattle.table_frames.specs.inside.LockedRuns.{IsLockedAt, LockKey, TakesTurns}
use Rattle.table_frames.specs.declared.locked_run.Taken.TheVariants.{Kept}
use Rattle.table_frames.specs.inside.FrameBatches.{AreDoneAt}
use Rattle.table_frames.proofs.Closing.{comes_into, over_of, some_table, takes_last}
use Rattle.table_frames.proofs.Batches.{no_back, no_turn_left}
use Rattle.table_frames.proofs.frame.Frame.keep.Goals as goal

pub returns-then-is_empty-clause-taken : goal.returns-then-is_empty-clause-taken
returns-then-is_empty-clause-taken g c =
    let fates = c.is_empty.ensures.fates.0 c.if-is_empty.true in (
      no_turn_left g.J.Job.meaning c.args.self.now c.args.done.now (c.is_empty.ensures.table.0 c.if-is_empty.true) fates c.requires.done,
      no_back c.args.self.now c.args.done.now c.args.returned.now fates c.requires.returned,
    )

pub take_in-requires-clause-run : goal.take_in-requires-clause-run
take_in-requires-clause-run g c κs within = ap (λ (k : LockKey g.row.J.Denot). k.frame) (c.take-value.ensures.key ∙ c.self.invariant.0)

pub take_in-requires-clause-book : goal.take_in-requires-clause-book
take_in-requires-clause-book g c κs within = sym c.self.invariant.4.same ∙ ap book_of c.self.view_is ∙ c.book.ensures

pub take_in-requires-clause-teller : goal.take_in-requires-clause-teller
take_in-requires-clause-teller g c κs within = subst (λ o. IfSome o (λ book. c.args.teller.now.book ≡ book)) c.book.ensures c.requires.teller

pub take_in-requires-clause-done : goal.take_in-requires-clause-done
take_in-requires-clause-done g c κs within = subst (λ fs. AreDoneAt g.J.Job.meaning fs c.args.done.now) (sym c.self.view_is) c.requires.done

pub take_in-requires-clause-some : goal.take_in-requires-clause-some
take_in-requires-clause-some g c κs within =
    let done = subst (λ fs. AreDoneAt g.J.Job.meaning fs c.args.done.now) (sym c.self.view_is) c.requires.done in
    some_table c.self.inside.run.table c.args.done.now.batch.table done.table (λ none. let empty : c.is_empty.result ≡ true = c.is_empty.ensures.table.1 none in let not : c.is_empty.result ≡ false = c.if-is_empty.false in absurd (cc))

pub take_in-requires-clause-returned : goal.take_in-requires-clause-returned
take_in-requires-clause-returned g c κs within =
    let depth : c.take-value.result.value.spans.depth ≡ length (frames_around c.self.inside.parent) = ap (λ (k : LockKey g.row.J.Denot). k.depth) (c.take-value.ensures.key ∙ c.self.invariant.0) in
    let deep : length c.args.self.now ≡ 1 + length (frames_around c.self.inside.parent) = ap length (sym c.self.view_is) ∙ omega arith in
    comes_into c.args.self.now (name_of c.book.result.now) c.take-value.result.value.spans.depth c.args.returned.now c.book.ensures (omega arith) c.requires.returned.back.is

pub take_in-requires-clause-spans : goal.take_in-requires-clause-spans
take_in-requires-clause-spans g c κs within = c.requires.returned.back.spans

pub finish-requires-clause-key : goal.finish-requires-clause-key
finish-requires-clause-key g c κs within = subst (λ fs. IsLockedAt fs c.take_in.new.self) c.self.view_is (c.take_in.ensures.key ∙ c.take-value.ensures.key ∙ c.self.invariant.0)

pub finish-requires-clause-whole : goal.finish-requires-clause-whole
finish-requires-clause-whole g c κs within =
    let meaning = g.J.Job.meaning in
    let fates = c.args.done.now.batch.fates in
    let old = c.take-value.result.value in
    let takes = subst (TakesTurns meaning fates old c.take_in.new.self) c.in-Ok-Kept-All.field-0-is c.in-Ok-Kept-All.ensures.takes in
    (subst (λ (r : Remaining). TakesTurns meaning fates old c.take_in.new.self (Kept r)) c.in-Ok-Kept-All.field-0-0-is takes).1

pub put-requires-clause-key : goal.put-requires-clause-key
put-requires-clause-key g c = c.take_in.ensures.key ∙ c.take-value.ensures.key

pub put-requires-clause-pass : goal.put-requires-clause-pass
put-requires-clause-pass g c = c.take-value.ensures.pass

pub put-requires-in-Ok-Aside-clause-key : goal.put-requires-in-Ok-Aside-clause-key
put-requires-in-Ok-Aside-clause-key g c = c.take_in.ensures.key ∙ c.take-value.ensures.key

pub put-requires-in-Ok-Aside-clause-pass : goal.put-requires-in-Ok-Aside-clause-pass
put-requires-in-Ok-Aside-clause-pass g c = c.take-value.ensures.pass

pub put-requires-in-Err-clause-key : goal.put-requires-in-Err-clause-key
put-requires-in-Err-clause-key g c = c.take_in.ensures.key ∙ c.take-value.ensures.key

pub put-requires-in-Err-clause-pass : goal.put-requires-in-Err-clause-pass
put-requires-in-Err-clause-pass g c = c.take-value.ensures.pass

pub returns-in_ok-finish-in-Ok-Kept-All-clause-keeps : goal.returns-in_ok-finish-in-Ok-Kept-All-clause-keeps
returns-in_ok-finish-in-Ok-Kept-All-clause-keeps g c =
    let J = g.row.J.Denot in
    let V = g.row.J-V.Denot in
    let meaning = g.J.Job.meaning in
    let frames = c.args.self.now in
    let fates = c.args.done.now.batch.fates in
    let old = c.take-value.result.value in
    let new = c.take_in.new.self in
    let over = c.in_ok-finish-in-Ok-Kept-All.field-0 in
    let finished = c.in_ok-finish-in-Ok-Kept-All.ensures in
    let takes = subst (TakesTurns meaning fates old new) c.in-Ok-Kept-All.field-0-is c.in-Ok-Kept-All.ensures.takes in
    let keeps = (subst (λ (r : Remaining). TakesTurns meaning fates old new (Kept r)) c.in-Ok-Kept-All.field-0-0-is takes).0 in
    let key = c.take_in.ensures.key ∙ c.take-value.ensures.key ∙ c.self.invariant.0 in
    let table = subst (λ fs. HasTable fs new.kept.keeper.table) c.self.view_is (ap (λ (k : LockKey J). k.frame.table) key) in
    record {
      over = over_of meaning frames keeps.earlier fates new.kept.keeper.fates over keeps.fates_are finished.over;
      keeper = subst (λ (k : KeeperState V). TakesIn frames fates (IsEnd over) k) (sym c.keeper_now.ensures) (takes_last frames fates (IsEnd over) old new finished.end table keeps);
    }
