use Rattle.std.proofs.Common.{◌≡◌, take}
use Rattle.text_ops.specs.inside.Cuts.{end_count}
use Rattle.text_ops.proofs.line_ends.block_line_ends.Given as goal

abbrev pub invariant-loop-byte : goal.invariant-loop-byte
invariant-loop-byte l = l.ends ≡ end_count (take l.byte-index l.block)
