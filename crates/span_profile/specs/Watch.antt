-- The counts and the spans of watchers.
use Rattle.std.specs.Prelude.{◌≡◌, ℕ, ◌+◌, ◌-◌, ◌^◌, List, min}
use Rattle.journal_rules.specs.declared.span.Span.{Span}
use Rattle.span_profile.specs.declared.span_count.SpanCount.{SpanCount}
use Rattle.span_profile.specs.declared.span_fuse.SpanFuse.{SpanFuse}
use Rattle.span_profile.specs.declared.span_list.SpanList.{SpanList}

-- one more, up to the greatest number of 64 bits
abbrev pub one_more : ℕ → ℕ
one_more n = min (n + 1) (2 ^ 64 - 1)

-- how many spans the watcher that only counts was told
abbrev pub counted : SpanCount → ℕ
counted watcher = watcher.count

-- how many spans the watcher that refuses some was told and has counted, and how many it counts before it refuses one
abbrev pub passed : SpanFuse → ℕ
passed watcher = watcher.count

abbrev pub fuse : SpanFuse → ℕ
fuse watcher = watcher.passes

-- the spans that the watcher that keeps them was told
abbrev pub listed : SpanList → List Span
listed watcher = watcher.spans.items

-- a watcher was told so many spans more than a number, by what it says of itself; it counts up to the greatest u64
abbrev pub IsToldSince : {X : Type 0} → (X → ℕ) → ℕ → ℕ → X → Type 0
IsToldSince told before n watcher = told watcher ≡ min (before + n) (2 ^ 64 - 1)

-- Where it was told so many, it was then told so many.
abbrev pub TellsOn : {X : Type 0} → (X → ℕ) → ℕ → ℕ → X → X → Type 0
TellsOn told m n old new = (before : ℕ) → IsToldSince told before m old → IsToldSince told before n new
