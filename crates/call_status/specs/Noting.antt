-- What becomes of the line of a status on the diagnostics sink.
use Rattle.std.specs.Prelude.{◌≡◌, ℕ, ◌<◌, List, []}
use Rattle.outside_io.specs.Sink.{SinkState}
use Rattle.call_status.specs.declared.status.Status.{Status}
use Rattle.call_status.specs.declared.status.Status.TheVariants.{Done}
use Rattle.call_status.specs.declared.status.Noted.{Noted}
use Rattle.call_status.specs.declared.status.Noted.TheVariants.{Whole, Fault, NoMemory}
use Rattle.call_status.specs.Delivery.{CutShort, Delivered}

-- What a sink that held nothing back has taken of a line: the whole of it; a prefix, where a write failed; or nothing,
-- where an allocation failed.
abbrev pub TakesLine : SinkState → SinkState → List ℕ → Noted → Type 0
TakesLine before after line Whole = Delivered before after line
TakesLine before after line Fault = CutShort before after line × (before.faults < after.faults)
TakesLine before after line NoMemory = after ≡ before

-- What a call that ends with this status has done to the diagnostics sink, where this is the status's line. With Done
-- there is no line, and the sink is left alone.
pub record HasNoted {N : Type 0} (state : N → SinkState) (old new : N) (line : List ℕ) (status : Status) (noted : Noted) : Type 0 where
  pub takes : TakesLine (state old) (state new) line noted
  pub nothing_held : (state new).held_back ≡ []
  pub done : status ≡ Done → (noted ≡ Whole) × (new ≡ old)
