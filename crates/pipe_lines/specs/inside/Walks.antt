-- How the order is found.
use Rattle.std.specs.Prelude.{◌≡◌, ◌⊎◌, ⊤, ℕ, suc, max, ◌<◌, ◌≤◌, nat_lt, Bool, true, false, not, ◌&&◌, ◌==◌, List, [], ◌∷◌, length, drop, slice_index_or, if◌then◌else◌}
use Rattle.pipe_lines.specs.declared.deferral.DeferRow.{DeferRow}
use Rattle.pipe_lines.specs.declared.passing.Walk.{Walk}
use Rattle.pipe_lines.specs.declared.waits.Waits.{Waits}
use Rattle.pipe_lines.specs.PassOrder.{has_passed, is_free, looked_at, targets}
use Rattle.pipe_lines.specs.inside.Waiting.{rows_of, tokens_of}

-- so many marks, of the tokens that have passed
pub record AreMarks (tokens : ℕ) (passed : List ℕ) (marks : List Bool) : Type 0 where
  pub size : length marks ≡ tokens
  pub each : (k : ℕ) → slice_index_or marks k false ≡ has_passed passed k

-- whether a token below the number `looked` waits and is free
abbrev pub is_waiting : List DeferRow → List ℕ → ℕ → ℕ → Bool
is_waiting rows passed looked k = nat_lt k looked && (not (has_passed passed k) && is_free rows passed k)

-- after how many passes a token has passed, and 0 where it hasn't
abbrev pub passed_after : List ℕ → ℕ → ℕ
passed_after [] k = 0
passed_after (q ∷ passed) k = if q == k then 1 else (if passed_after passed k == 0 then 0 else suc (passed_after passed k))

-- after how many passes the last of these has passed
abbrev pub last_after : List ℕ → List ℕ → ℕ
last_after passed [] = 0
last_after passed (k ∷ ks) = max (passed_after passed k) (last_after passed ks)

-- after how many passes a token was freed, if it is free
abbrev pub freed_after : List DeferRow → List ℕ → ℕ → ℕ
freed_after rows passed k = last_after passed (targets rows k)

-- of two free tokens the first goes before the second
abbrev pub GoesBefore : List DeferRow → List ℕ → ℕ → ℕ → Type 0
GoesBefore rows passed j k = (freed_after rows passed j < freed_after rows passed k) ⊎ ((freed_after rows passed j ≡ freed_after rows passed k) × (j < k))

-- each goes before those behind it
abbrev pub InTurn : List DeferRow → List ℕ → List ℕ → Type 0
InTurn rows passed [] = ⊤
InTurn rows passed (k ∷ ks) = ((j : ℕ) → has_passed ks j ≡ true → GoesBefore rows passed k j) × InTurn rows passed ks

-- the tokens that wait and are free, in the order in which they pass
pub record IsQueue (rows : List DeferRow) (passed queue : List ℕ) : Type 0 where
  pub each : (k : ℕ) → has_passed queue k ≡ is_waiting rows passed (looked_at passed) k
  pub in_turn : InTurn rows passed queue

-- the walk is at these passes
pub record IsWalk (waits : Waits) (walk : Walk) : Type 0 where
  pub marks : AreMarks (tokens_of waits) walk.passed walk.marks.items
  pub looked : walk.looked ≡ looked_at walk.passed
  pub within : walk.looked ≤ tokens_of waits
  pub few : walk.resumed ≤ length walk.freed
  pub queue : IsQueue (rows_of waits) walk.passed (drop walk.resumed walk.freed)
