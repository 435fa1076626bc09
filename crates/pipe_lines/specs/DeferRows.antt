-- What defers tokens.
use Rattle.std.specs.Prelude.{◌≢◌, ℕ, ◌<◌, ◌≤◌, ◌==◌, Bool, List, length, All, AllPairs}
use Rattle.std.specs.List.{list_any}
use Rattle.pipe_lines.specs.declared.deferral.DeferRow.{DeferRow}

-- how many tokens a pipeline may be given
abbrev pub token_limit : ℕ
token_limit = 65536

-- A token that may come waits for others, one at least and not too many. Those may be ones that never come.
pub record IsDeferRow (row : DeferRow) : Type 0 where
  pub may_come : row.token < token_limit
  pub some : 1 ≤ length row.to
  pub few : length row.to ≤ 8
  pub in_range : All (λ target. target ≤ 1000000) row.to

-- no two rows are of one token
abbrev pub AreApart : List DeferRow → Type 0
AreApart rows = AllPairs (λ (a b : DeferRow). a.token ≢ b.token) rows

-- By these rows tokens may be deferred.
pub record AreDeferRows (rows : List DeferRow) : Type 0 where
  pub few : length rows ≤ 256
  pub each : All IsDeferRow rows
  pub apart : AreApart rows

-- whether a token has a row
abbrev pub is_deferred : List DeferRow → ℕ → Bool
is_deferred rows k = list_any (λ (row : DeferRow). row.token == k) rows
