-- What becomes of bytes that are written to a sink, which is then flushed.
use Rattle.std.specs.Prelude.{◌≡◌, ℕ, ◌<◌, ◌≤◌, List, [], Result, Ok, Err}
use Rattle.outside_io.specs.declared.ports.sink.SinkFault.{SinkFault}
use Rattle.outside_io.specs.declared.ports.sink.SinkFault.TheVariants as fault
use Rattle.outside_io.specs.Sink.{SinkState, Took, TookFront}

-- the whole of these bytes was taken, and nothing is held back
pub record Delivered (before after : SinkState) (bytes : List ℕ) : Type 0 where
  pub took : Took before.taken after.taken bytes
  pub nothing_held : after.held_back ≡ []
  pub faults : after.faults ≡ before.faults

-- a prefix of these bytes was taken, and nothing is held back
pub record CutShort (before after : SinkState) (bytes : List ℕ) : Type 0 where
  pub took : TookFront before.taken after.taken bytes
  pub nothing_held : after.held_back ≡ []

-- what a sink that holds nothing back has taken of bytes once they are written and flushed, by the result
abbrev pub Delivers : SinkState → SinkState → List ℕ → Result (Unit {0}) SinkFault → Type 0
Delivers before after bytes (Ok done) = Delivered before after bytes
Delivers before after bytes (Err fault.Failed) = CutShort before after bytes × (before.faults < after.faults)
Delivers before after bytes (Err fault.NoMemory) = CutShort before after bytes × (before.faults ≤ after.faults)
