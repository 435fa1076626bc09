use Rattle.std.proofs.Common.{◌≡◌, ◌+◌}
use Rattle.std.specs.Slice.Iter.{chunks_rest, chunks_size}
use Rattle.text_ops.specs.inside.Cuts.{end_count}
use Rattle.text_ops.proofs.line_ends.line_ends.Given as goal

abbrev pub invariant-loop-block : goal.invariant-loop-block
invariant-loop-block l = (l.ends + end_count (chunks_rest l.block-iterator) ≡ end_count l.bytes) × (chunks_size l.block-iterator ≡ 128)
