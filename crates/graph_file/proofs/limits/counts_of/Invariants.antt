use Rattle.std.proofs.Common.{map, take}
use Rattle.graph_file.specs.PlanText.{file_counts}
use Rattle.graph_file.specs.inside.Counting.{AreCounted}
use Rattle.graph_drafts.specs.inside.Reading.{draft_rows}
use Rattle.graph_file.proofs.limits.counts_of.Given as goal

abbrev pub invariant-loop-place : goal.invariant-loop-place
invariant-loop-place l = AreCounted
    (file_counts (record { top = draft_rows l.file.top; modules = map draft_rows (take l.place l.file.modules.items) }) (record { top = l.numbers.top; modules = take l.place l.numbers.modules.items })) l.counts
