-- Which tokens wait for which, in tables.
use Rattle.std.specs.Prelude.{◌≡◌, ℕ, ◌<◌, ◌==◌, Bool, false, List, [], ◌∷◌, ◌++◌, length, take, filter, slice_get, slice_index_or, Option, Some, None, if◌then◌else◌}
use Rattle.std.specs.List.{list_any, range_with_len}
use Rattle.pipe_lines.specs.declared.deferral.DeferRow.{DeferRow}
use Rattle.pipe_lines.specs.declared.waits.Waits.{Waits}
use Rattle.pipe_lines.specs.DeferRows.{AreApart, is_deferred}
use Rattle.pipe_lines.specs.PassOrder.{targets}

-- the row with this index is the token's
pub record IsRowAt (rows : List DeferRow) (k i : ℕ) : Type 0 where
  pub row : DeferRow
  pub at : slice_get rows i ≡ Some row
  pub is : row.token ≡ k

-- the index of a token's row, of those that aren't among the first n none
abbrev pub IsPlace : List DeferRow → ℕ → ℕ → Option ℕ → Type 0
IsPlace rows n k None = is_deferred (take n rows) k ≡ false
IsPlace rows n k (Some i) = IsRowAt rows k i

-- the indices of the rows of so many tokens, by the first n rows
pub record ArePlaces (tokens : ℕ) (rows : List DeferRow) (n : ℕ) (places : List (Option ℕ)) : Type 0 where
  pub size : length places ≡ tokens
  pub each : (k : ℕ) → k < tokens → IsPlace rows n k (slice_index_or places k None)

-- whether a token waits for another
abbrev pub waits_for : List DeferRow → ℕ → ℕ → Bool
waits_for rows k t = list_any (λ target. target == t) (targets rows k)

-- the tokens below n that wait for another
abbrev pub waiters : List DeferRow → ℕ → ℕ → List ℕ
waiters rows n t = filter (λ k. waits_for rows k t) (range_with_len 0 n)

-- the lists have of each token those below n that wait for it
pub record AreWaiters (tokens : ℕ) (rows : List DeferRow) (n : ℕ) (lists : List (List ℕ)) : Type 0 where
  pub size : length lists ≡ tokens
  pub each : (t : ℕ) → t < tokens → slice_index_or lists t [] ≡ waiters rows n t

-- the lists of those that pass a test have one token more
pub record GainsWaiter (old new : List (List ℕ)) (token : ℕ) (test : ℕ → Bool) : Type 0 where
  pub size : length new ≡ length old
  pub each : (t : ℕ) → t < length old → slice_index_or new t [] ≡ slice_index_or old t [] ++ (if test t then token ∷ [] else [])

-- the rows, and how many tokens there are
abbrev pub rows_of : Waits → List DeferRow
rows_of waits = waits.rows.now

abbrev pub tokens_of : Waits → ℕ
tokens_of waits = length waits.places.items

-- the tables are of these rows and so many tokens
pub record AreWaits (waits : Waits) : Type 0 where
  pub apart : AreApart (rows_of waits)
  pub places : ArePlaces (tokens_of waits) (rows_of waits) (length (rows_of waits)) waits.places.items
  pub waiters : AreWaiters (tokens_of waits) (rows_of waits) (tokens_of waits) waits.waiters.items
