-- Chunks of a range of indices.
use Rattle.std.specs.Prelude.{◌≡◌, ℕ, ◌+◌, ◌-◌, ◌*◌, ◌≤◌, min, Bool, ◌&&◌, nat_le, nat_lt, List, [], ◌∷◌, map, count_by, if◌then◌else◌}
use Rattle.std.specs.Int.{div_ceil}
use Rattle.std.specs.List.{range_with_len}
use Rattle.grain_tasks.specs.Folds.{Folding, fold_from, joined, plain_fold}
use Rattle.grain_tasks.specs.declared.chunk.Chunk.{Chunk}

-- the fold of a chunk alone
abbrev pub chunk_fold : {F V : Type 0} → Folding F V → F → Chunk → V
chunk_fold folding f chunk = fold_from folding f chunk.from (chunk.to - chunk.from)

-- The chunks lie one behind the other, from one index up to another.
abbrev pub AreConsecutive : ℕ → ℕ → List Chunk → Type 0
AreConsecutive from to [] = from ≡ to
AreConsecutive from to (chunk ∷ chunks) = (chunk.from ≡ from) × (from ≤ chunk.to) × AreConsecutive chunk.to to chunks

-- However a range is cut into chunks, their folds, joined in the order of the chunks, are the fold of the range.
abbrev pub JoinsChunks : {F V : Type 0} → Folding F V → F → Type 0
JoinsChunks folding f =
    (chunks : List Chunk) (count : ℕ) → AreConsecutive 0 count chunks → count ≤ folding.count f
    → joined folding f (map (chunk_fold folding f) chunks) ≡ plain_fold folding f count

-- how many static chunks of so many indices each a range has
abbrev pub chunk_count : ℕ → ℕ → ℕ
chunk_count count grain = div_ceil count grain

-- The chunk at a place. The last one may be shorter.
abbrev pub chunk_at : ℕ → ℕ → ℕ → Chunk
chunk_at count grain place = record { from = place * grain; to = min (place * grain + grain) count }

-- all of them, in order
abbrev pub static_chunks : ℕ → ℕ → List Chunk
static_chunks count grain = map (chunk_at count grain) (range_with_len 0 (chunk_count count grain))

-- whether a chunk has an index
abbrev pub has_index : ℕ → Chunk → Bool
has_index i chunk = nat_le chunk.from i && nat_lt i chunk.to

-- Each index below the count is in one of these chunks and in no other; any other index is in none.
abbrev pub HaveEachOnce : ℕ → List Chunk → Type 0
HaveEachOnce count chunks = (i : ℕ) → count_by (has_index i) chunks ≡ (if nat_lt i count then 1 else 0)
