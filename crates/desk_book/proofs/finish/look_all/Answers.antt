use Rattle.std.proofs.Common.{◌≡◌, subst, set, arith}
use Rattle.std.specs.Prelude.{slice_get, IsSomeAnd}
use Rattle.desk_book.specs.Passes.{PassState, HasLooked}
use Rattle.desk_book.proofs.Closing.{looked_more, all_looked}
use Rattle.desk_book.proofs.Done.{book_trans, items_trans, later_history}
use Rattle.desk_book.proofs.finish.look_all.Goals as goal

pub loop-at-preserved : goal.loop-at-preserved
loop-at-preserved g c =
    let inv = c.loop-at.invariant in
    let there = subst (λ hs. IsSomeAnd (slice_get c.loop-at.passes.items c.loop-at.at) (λ (old : PassState). (new : PassState) × (c.look_at.new.passes.items ≡ set c.loop-at.passes.items c.loop-at.at new) × HasLooked c.args.register.now hs old new))
    (later_history c.args.state.now c.loop-at.state inv.0 inv.1) c.look_at.ensures.there in (
      book_trans c.args.state.now c.loop-at.state c.look_at.new.state inv.0 c.look_at.ensures.desk,
      items_trans c.args.state.now.book c.loop-at.state.book c.look_at.new.state.book inv.1 c.look_at.ensures.book,
      looked_more c.args.register.now c.args.state.now.book.history c.args.passes.now.items c.loop-at.passes.items c.look_at.new.passes.items c.loop-at.at inv.2 there,
    )

pub returns-clause-each : goal.returns-clause-each
returns-clause-each g c =
    all_looked c.args.register.now c.args.state.now.book.history c.args.passes.now.items c.loop-at.passes.items c.loop-at.at (omega (arith, c.loop-at-test.false, c.len-at-end.ensures, c.args.passes.now.ok.0)) c.loop-at.invariant.2
