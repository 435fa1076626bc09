use Rattle.std.proofs.Common.{◌++◌, ◌∙◌, ap, subst, map, take}
use Rattle.std.proofs.lemmas.List.{take_all}
use Rattle.text_ops.specs.declared.counted_line.CountedLine.{CountedLine}
use Rattle.text_ops.specs.Lines.{text_of, ended}
use Rattle.text_ops.specs.Values.{Makes}
use Rattle.text_ops.specs.inside.Counting.{counted_row_line}
use Rattle.text_ops.specs.inside.Gathering.{IsGathered}
use Rattle.text_ops.proofs.CountedLemmas.{tally_is}
use Rattle.text_ops.proofs.CountedSteps.{rows-next}
use Rattle.text_ops.proofs.LineLemmas.{IsNormal-text_of}
use Rattle.text_ops.proofs.SortLemmas.{gathered_normal}
use Rattle.text_ops.proofs.tallies.tally_of_rows.Goals as goal

pub loop-row-preserved : goal.loop-row-preserved
loop-row-preserved c =
    rows-next c.args.rows.now c.loop-row.row-index c.loop-row.made c.add_counted.new.made c.row-item.result
    c.loop-row.invariant c.loop-row-test.true
    (λ all gathered. subst (λ (row : CountedLine). IsGathered (all ++ ended (counted_row_line row)) c.add_counted.new.made) c.row-item.is (c.in_ok-add_counted.ensures all gathered))

pub finish-requires : goal.finish-requires
finish-requires c =
    let lines = map counted_row_line (take c.loop-row.row-index c.args.rows.now) in
    gathered_normal (text_of lines) c.loop-row.made c.loop-row.invariant (IsNormal-text_of lines)

pub returns : goal.returns
returns c = λ text are.
    let all = ap (λ l. text_of (map counted_row_line l)) (take_all c.loop-row.row-index c.args.rows.now c.loop-row-test.false) in
    subst (λ value. Makes value c.finish.result) (all ∙ tally_is text c.args.rows.now are) (c.finish.ensures _ c.loop-row.invariant)
