-- How many workers may share a list.
use Rattle.std.specs.Prelude.{ℕ}

-- the greatest number of workers of a list, each of which has an owner
abbrev pub max_workers : ℕ
max_workers = 16
