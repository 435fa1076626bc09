use Rattle.std.proofs.Common.{sym, subst, arith}
use Rattle.std.proofs.lemmas.List.{nil_from_length}
use Rattle.text_ops.specs.inside.Sorting.{SortedSoFar}
use Rattle.text_ops.specs.LineOrder.{in_order}
use Rattle.text_ops.specs.Lines.{IsNormal, lines_of}
use Rattle.text_ops.specs.Values.{Makes}
use Rattle.text_ops.proofs.LineLemmas.{IsNormal-text_of}
use Rattle.text_ops.proofs.SortLemmas.{gathered_normal}
use Rattle.text_ops.proofs.SortSteps.{SortedSoFar-start, SortedSoFar-next, SortedSoFar-end, last_ended}
use Rattle.text_ops.proofs.order.sort_by_keys.Goals as goal

pub loop-sort_key-init : goal.loop-sort_key-init
loop-sort_key-init g c =
    SortedSoFar-start c.args.text.now c.in_ok-sort_keys.sort_keys.items c.reverse.new.self.items c.in_ok-made.made c.requires.normal c.in_ok-sort_keys.ensures c.reverse.ensures.items c.in_ok-made.ensures

pub add_keyed_line-requires : goal.add_keyed_line-requires
add_keyed_line-requires g c =
    last_ended c.args.text.now c.loop-sort_key.sort_keys.items c.pop.new.self.items c.in-Some.sort_key c.loop-sort_key.made c.loop-sort_key.invariant c.in-Some.ensures.items

pub loop-sort_key-preserved : goal.loop-sort_key-preserved
loop-sort_key-preserved g c =
    let text = c.args.text.now in
    subst (λ left. SortedSoFar text left c.add_keyed_line.new.made) (sym c.give_back_memory.ensures)
    (SortedSoFar-next text c.loop-sort_key.sort_keys.items c.pop.new.self.items c.in-Some.sort_key c.loop-sort_key.made c.loop-sort_key.invariant c.in-Some.ensures.items c.add_keyed_line.new.made c.in_ok-add_keyed_line.ensures)

pub finish-requires : goal.finish-requires
finish-requires g c =
    let so_far = c.loop-sort_key.invariant in
    let none = nil_from_length _ (omega (arith, c.in_default.ensures.cases, c.loop-sort_key.sort_keys.ok.0)) in
    let whole = SortedSoFar-end c.args.text.now c.loop-sort_key.sort_keys.items c.loop-sort_key.made so_far none in
    gathered_normal so_far.all c.loop-sort_key.made so_far.gathered (subst IsNormal (sym whole) (IsNormal-text_of (in_order (lines_of c.args.text.now))))

pub returns : goal.returns
returns g c =
    let so_far = c.loop-sort_key.invariant in
    let none = nil_from_length _ (omega (arith, c.in_default.ensures.cases, c.loop-sort_key.sort_keys.ok.0)) in
    let whole = SortedSoFar-end c.args.text.now c.loop-sort_key.sort_keys.items c.loop-sort_key.made so_far none in
    subst (λ value. Makes value c.finish.result) whole (c.finish.ensures so_far.all so_far.gathered)
