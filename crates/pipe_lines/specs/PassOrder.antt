-- The order in which tokens pass the first pipe, some of them deferred.
use Rattle.std.specs.Prelude.{ℕ, zero, suc, max, ◌+◌, ◌-◌, Bool, not, ◌&&◌, ◌==◌, List, [], ◌∷◌, ◌++◌, length, take, find, Option, Some, None, if◌then◌else◌}
use Rattle.std.specs.Option.{option_or}
use Rattle.std.specs.List.{list_any, list_all, range_with_len}
use Rattle.pipe_lines.specs.declared.deferral.DeferRow.{DeferRow}

-- the targets of a token: those of its row, if it has one
abbrev pub targets : List DeferRow → ℕ → List ℕ
targets [] k = []
targets (row ∷ rows) k = if row.token == k then row.to else targets rows k

-- whether a token is among these that have passed
abbrev pub has_passed : List ℕ → ℕ → Bool
has_passed passed k = list_any (λ q. q == k) passed

-- A token is free where all its targets have passed, so one without a row always is.
abbrev pub is_free : List DeferRow → List ℕ → ℕ → Bool
is_free rows passed k = list_all (has_passed passed) (targets rows k)

-- how many tokens were looked at: all up to the greatest that has passed
abbrev pub looked_at : List ℕ → ℕ
looked_at [] = 0
looked_at (k ∷ passed) = max (suc k) (looked_at passed)

-- the first of these numbers at which something is found, with what is found there
abbrev pub first_found : (ℕ → Option ℕ) → List ℕ → Option ℕ
first_found f [] = None
first_found f (i ∷ is) = option_or (f i) (first_found f is)

-- the least token that was looked at, has not passed, and is free by the first i passes
abbrev pub freed_by : List DeferRow → List ℕ → ℕ → Option ℕ
freed_by rows passed i = find (λ k. not (has_passed passed k) && is_free rows (take i passed) k) (range_with_len 0 (looked_at passed))

-- of the tokens that wait, the one that is free the longest, the smaller number first
abbrev pub resumed : List DeferRow → List ℕ → Option ℕ
resumed rows passed = first_found (freed_by rows passed) (range_with_len 0 (length passed + 1))

-- the least new token that is free
abbrev pub next_new : ℕ → List DeferRow → List ℕ → Option ℕ
next_new tokens rows passed = find (is_free rows passed) (range_with_len (looked_at passed) (tokens - looked_at passed))

-- the token that passes next, if one does
abbrev pub next_token : ℕ → List DeferRow → List ℕ → Option ℕ
next_token tokens rows passed = option_or (resumed rows passed) (next_new tokens rows passed)

-- these tokens and the next ones, n at most
abbrev pub passes : ℕ → List DeferRow → ℕ → List ℕ → List ℕ
passes tokens rows zero passed = passed
passes tokens rows (suc n) passed = elim (next_token tokens rows passed) [ None ↦ passed | Some k ↦ passes tokens rows n (passed ++ k ∷ []) ]

-- The order in which tokens pass, each once at most: all that do.
abbrev pub pass_order : ℕ → List DeferRow → List ℕ
pass_order tokens rows = passes tokens rows tokens []

-- the least token that doesn't pass
abbrev pub least_left : ℕ → List ℕ → Option ℕ
least_left tokens passed = find (λ k. not (has_passed passed k)) (range_with_len 0 tokens)
