-- What a run of static chunks ended with, put down so that each value is found at once.
use Rattle.std.specs.Prelude.{◌≡◌, ℕ, ◌<◌, List, Option, Some, None, slice_index_or}
use Rattle.std.specs.Arc.{arc_value}
use Rattle.std.specs.Option.{option_and_then, option_map}
use Rattle.journal_rules.specs.declared.entry.Entry.{Entry}
use Rattle.run_frame.specs.LastEnds.{last_value}
use Rattle.run_frame.specs.declared.run.ValueRow.{ValueRow}
use Rattle.grain_tasks.specs.declared.chunk_values.ChunkValues.{ChunkValues}
use Rattle.grain_tasks.specs.Chunks.{chunk_at, chunk_count, chunk_fold}
use Rattle.grain_tasks.specs.Folds.{Folding}

-- the value that is held of a task's last End
abbrev pub value_held : {V : Type 0} → ChunkValues V → ℕ → Option V
value_held held t = option_and_then (λ n. option_map arc_value (slice_index_or held.values.items n None)) (slice_index_or held.ends.items t None)

-- they are those of a run, of its tasks below a number
abbrev pub AreLastValues : {V : Type 0} → List Entry → List (ValueRow V) → ℕ → ChunkValues V → Type 0
AreLastValues journal rows tasks held = (t : ℕ) → t < tasks → value_held held t ≡ last_value journal rows t

-- they are the folds of the chunks
abbrev pub AreChunkValues : {F V : Type 0} → Folding F V → F → ℕ → ℕ → ChunkValues V → Type 0
AreChunkValues folding f count grain held = (t : ℕ) → t < chunk_count count grain → value_held held t ≡ Some (chunk_fold folding f (chunk_at count grain t))

-- each task of a run ended with the fold of its chunk
abbrev pub EndWithChunks : {F V : Type 0} → Folding F V → F → ℕ → ℕ → List Entry → List (ValueRow V) → Type 0
EndWithChunks folding f count grain journal rows = (t : ℕ) → t < chunk_count count grain → last_value journal rows t ≡ Some (chunk_fold folding f (chunk_at count grain t))
