use Rattle.std.proofs.Common.{sym, arith}
use Rattle.join_words.specs.Ins.{parts_of}
use Rattle.library_tour.proofs.SumLemmas.{sum_further}
use Rattle.library_tour.proofs.sum_job.sum_with.Goals as goal

pub loop-place-preserved : goal.loop-place-preserved
loop-place-preserved c =
    let more = sum_further (parts_of c.args.ins.now) c.loop-place.place c.in-Some.given.now (sym c.in-Some.ensures) in
    omega (arith, more, c.saturating_add-sum.ensures, c.number_of.ensures, c.loop-place.invariant)
