-- What a draw comes to.
use Rattle.grain_tasks.specs.declared.row.Drawn.{Drawn}
use Rattle.grain_tasks.specs.declared.row.Drawn.TheVariants.{Chunk as DrawnChunk, Empty}
use Rattle.grain_tasks.specs.Rows.{DrawState, DrawsNext, Drains}

-- A chunk that is the seat's next, or what the seat drew in all.
abbrev pub DrawsFrom : DrawState → Drawn → Type 0
DrawsFrom before (DrawnChunk after chunk) = DrawsNext before chunk after
DrawsFrom before (Empty after) = Drains before after
