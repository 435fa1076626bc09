use Rattle.std.proofs.Common.{◌≡◌, ◌<◌, ℕ, length, slice_index}
use Rattle.join_tables.specs.inside.FirstReleases.{opening_word}
use Rattle.join_tables.proofs.releases.opening_words.Given as goal

abbrev pub invariant-loop-word : goal.invariant-loop-word
invariant-loop-word l = (length l.words.items ≡ l.word) × ((k : ℕ) → k < length l.words.items → slice_index l.words.items k ≡ opening_word l.net l.live k)
