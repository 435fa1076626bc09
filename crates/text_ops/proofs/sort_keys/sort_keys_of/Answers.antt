use Rattle.std.proofs.Common.{◌≡◌, ◌∙◌, [], ◌∷◌, ◌++◌, sym, ap, subst, length, arith}
use Rattle.text_ops.specs.inside.SortKeys.{AreUpTo, piece_of}
use Rattle.text_ops.proofs.FittingKeys.{AreUpTo-first, AreUpTo-rest}
use Rattle.text_ops.proofs.SortKeyLemmas.{KeyedSoFar-start, KeyedSoFar-next, line_fits, length-piece_of-le}
use Rattle.text_ops.proofs.sort_keys.sort_keys_of.Goals as goal

pub loop-line-init : goal.loop-line-init
loop-line-init g c =
    let lines = c.into_iter-line-iterator.ensures.into_iter_gives ∙ c.new-line-items.ensures in (
      KeyedSoFar-start c.args.by c.args.text.now c.in_ok-sort_keys.sort_keys.items c.into_iter-line-iterator.result c.requires.normal c.in_ok-sort_keys.ensures.items lines,
      subst (AreUpTo g.K.KeyForm.most_len) (sym lines) c.requires.fit.lens,
    )

pub new-requires-clause-start : goal.new-requires-clause-start
new-requires-clause-start g c =
    let fits = line_fits c.args.by c.args.text.now c.loop-line.sort_keys.items c.loop-line.start c.in-Some.line.now c.loop-line.line-iterator c.next.new.self c.loop-line.invariant.0 c.in-Some.ensures.steps in
    omega (arith, fits, c.requires.fit.starts)

pub new-requires-clause-len : goal.new-requires-clause-len
new-requires-clause-len g c =
    let short = AreUpTo-first g.K.KeyForm.most_len c.loop-line.line-iterator c.in-Some.line.now c.next.new.self c.in-Some.ensures.steps c.loop-line.invariant.1 in
    let long : length c.piece_of-piece.result.now ≡ length (piece_of c.args.by c.in-Some.line.now) = ap length c.piece_of-piece.ensures in
    omega (arith, short, long, length-piece_of-le c.args.by c.in-Some.line.now)

pub loop-line-preserved : goal.loop-line-preserved
loop-line-preserved g c = (
  KeyedSoFar-next c.args.by c.args.text.now c.loop-line.sort_keys.items c.loop-line.start c.in-Some.line.now c.loop-line.line-iterator c.next.new.self c.loop-line.invariant.0 c.in-Some.ensures.steps
      c.piece_of-piece.result.now c.lead.result c.push.new.self.items c.piece_of-piece.ensures c.lead.ensures.value
      (c.in_ok-push.ensures.items ∙ ap (λ sort_key. c.loop-line.sort_keys.items ++ sort_key ∷ []) c.new.ensures),
  AreUpTo-rest g.K.KeyForm.most_len c.loop-line.line-iterator c.in-Some.line.now c.next.new.self c.in-Some.ensures.steps c.loop-line.invariant.1,
)
