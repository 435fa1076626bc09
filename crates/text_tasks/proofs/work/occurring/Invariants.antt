use Rattle.std.proofs.Common.{◌≡◌, ◌++◌, pos, map, drop}
use Rattle.task_graph.specs.Places.{places_from}
use Rattle.text_ops.specs.TextMeaning.{has_word}
use Rattle.text_tasks.specs.OpMeaning.{occurring}
use Rattle.text_tasks.proofs.work.occurring.Given as goal

abbrev pub invariant-loop-index : goal.invariant-loop-index
invariant-loop-index l = l.chosen ++ map pos (places_from (λ word. has_word word l.text) l.index (drop l.index l.words)) ≡ occurring l.words l.text
