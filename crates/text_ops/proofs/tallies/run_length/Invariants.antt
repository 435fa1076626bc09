use Rattle.std.proofs.Common.{◌≡◌, ℕ, ◌<◌, get_or}
use Rattle.text_ops.specs.inside.SortKeys.{keyed_piece}
use Rattle.text_ops.proofs.SortKeyLemmas.{no_sort_key}
use Rattle.text_ops.proofs.tallies.run_length.Given as goal

abbrev pub invariant-loop-k : goal.invariant-loop-k
invariant-loop-k g l = (j : ℕ) → j < l.k → keyed_piece l.text (get_or l.sort_keys j no_sort_key) ≡ l.first
