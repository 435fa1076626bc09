-- Laws of the order in which tokens pass.
use Rattle.std.specs.Prelude.{◌≡◌, ◌≢◌, ℕ, ◌<◌, true, List, [], None, AllPairs}
use Rattle.std.specs.List.{range_with_len}
use Rattle.pipe_lines.specs.declared.deferral.DeferRow.{DeferRow}
use Rattle.pipe_lines.specs.PassOrder.{has_passed, pass_order, least_left}

-- no token passes twice
abbrev pub PassOnce : Type 0
PassOnce = (tokens : ℕ) (rows : List DeferRow) → AllPairs (λ a b. a ≢ b) (pass_order tokens rows)

-- where none is left, all pass
abbrev pub PassAll : Type 0
PassAll = (tokens : ℕ) (rows : List DeferRow) → least_left tokens (pass_order tokens rows) ≡ None → (k : ℕ) → k < tokens → has_passed (pass_order tokens rows) k ≡ true

-- without rows they pass by their numbers
abbrev pub PassInTurn : Type 0
PassInTurn = (tokens : ℕ) → pass_order tokens [] ≡ range_with_len 0 tokens
