use Rattle.std.proofs.Common.{◌≡◌, length}
use Rattle.std.specs.List.{flat_map, range_with_len}
use Rattle.text_tasks.specs.PipeEnds.{text_at_place}
use Rattle.text_tasks.specs.inside.Gathering.{all_of}
use Rattle.text_tasks.proofs.pipe_text.texts_of_tokens.Given as goal

abbrev pub invariant-loop-place : goal.invariant-loop-place
invariant-loop-place l = all_of l.texts ≡ flat_map (text_at_place (length l.job.spec.serial) l.run) (range_with_len 0 l.place)
