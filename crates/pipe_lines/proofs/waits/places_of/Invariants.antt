use Rattle.pipe_lines.specs.inside.Waiting.{ArePlaces}
use Rattle.pipe_lines.proofs.waits.places_of.Given as goal

abbrev pub invariant-loop-place : goal.invariant-loop-place
invariant-loop-place l = ArePlaces l.fn.tokens l.fn.rows l.place l.places.items
