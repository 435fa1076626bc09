-- The slots in which a row is noted by the hash of a key or of a line.
use Rattle.std.specs.Prelude.{ℕ, ◌*◌, ◌-◌, ◌/◌, ◌%◌, ◌^◌, List}
use Rattle.std.specs.Hash.FoldHasher as folding

-- so many slots are looked at
abbrev pub probes : ℕ
probes = 16

-- the hash of bytes
abbrev pub hash_of : List ℕ → ℕ
hash_of bytes = folding.finish (folding.write folding.initial bytes)

-- the first slot that is looked at for bytes, of so many slots: none of the last ones, so that each is followed by as
-- many as are looked at
abbrev pub first_slot : List ℕ → ℕ → ℕ
first_slot bytes slots = (hash_of bytes / 2 ^ 32 * (slots - probes)) % 2 ^ 64 / 2 ^ 32
