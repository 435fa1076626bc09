-- What was put together.
use Rattle.std.specs.Prelude.{ℕ, List}
use Rattle.text_ops.specs.declared.joined.Joined.{Joined}
use Rattle.text_ops.specs.inside.Gathering.{IsGathered}

-- The value has these bytes, or counts them where they are too many.
abbrev pub IsJoined : List ℕ → Joined → Type 0
IsJoined all joined = IsGathered all joined.made
