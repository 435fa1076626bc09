use Rattle.pipe_lines.proofs.WaitLemmas.{places_more}
use Rattle.pipe_lines.proofs.waits.places_of.Goals as goal

pub loop-place-preserved : goal.loop-place-preserved
loop-place-preserved c =
    places_more c.args.tokens c.loop-place.place c.args.rows.now c.index-rows-place.result c.loop-place-test.true c.index-rows-place.is c.loop-place.places.items c.note_row.new.places.items
    c.loop-place.invariant c.note_row.ensures.len c.note_row.ensures.each
