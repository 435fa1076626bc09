-- How many starts a journal may have at most.
use Rattle.std.specs.Prelude.{ℕ}

-- the greatest limit of starts that a job may have
abbrev pub max_limit : ℕ
max_limit = 2097153
