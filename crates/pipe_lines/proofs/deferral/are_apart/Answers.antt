use Rattle.std.proofs.Common.{sym, ◌∙◌, refl, arith}
use Rattle.std.proofs.lemmas.Bool.{false≢true}
use Rattle.pipe_lines.proofs.DeferLemmas.{apart_more, not_apart}
use Rattle.pipe_lines.proofs.deferral.are_apart.Goals as goal

pub loop-place-preserved : goal.loop-place-preserved
loop-place-preserved c = apart_more c.args.rows.now c.loop-place.place c.index-rows-place.result c.loop-place-test.true c.index-rows-place.is (sym c.is_deferred.ensures ∙ c.if-is_deferred.false) c.loop-place.invariant

pub returns-then-is_deferred : goal.returns-then-is_deferred
returns-then-is_deferred c = (
  (λ no. absurd (false≢true no)),
  λ apart. absurd (not_apart c.args.rows.now c.loop-place.place c.index-rows-place.result c.loop-place-test.true c.index-rows-place.is (sym c.is_deferred.ensures ∙ c.if-is_deferred.true) apart),
)

pub returns : goal.returns
returns c = ((λ yes i j d less below. c.loop-place.invariant i j d (omega (arith, less, below, c.loop-place-test.false)) less below), λ apart. refl)
