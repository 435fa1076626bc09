-- A stream to write on as a sink.
use Rattle.std.specs.Prelude.{◌≡◌, ℕ, ◌+◌, ◌-◌, ◌^◌, List, [], ◌++◌, Option, Result, Ok, Err}
use Rattle.std.specs.Io.KnownBytes.{Appends}
use Rattle.outside_io.specs.declared.ports.sink.SinkFault.{SinkFault}
use Rattle.outside_io.specs.declared.ports.sink.SinkFault.TheVariants.{Failed, NoMemory}

-- The stream, the bytes held back from it, and how often it has failed.
pub record OpenStream (W : Type 0) : Type 0 where
  pub stream : W
  pub held : List ℕ
  pub faults : ℕ

-- how many bytes are held back at most
abbrev pub held_limit : ℕ
held_limit = 65536

-- These bytes were written without a last part, once and in order. It is known where the stream specifies what was
-- written on it.
pub record WroteBut (before after : Option (List ℕ)) (bytes last : List ℕ) : Type 0 where
  pub front : List ℕ
  pub parts : bytes ≡ front ++ last
  pub wrote : Appends before after front

-- A prefix of these bytes was written: none, some or all of them.
pub record WroteFront (before after : Option (List ℕ)) (bytes : List ℕ) : Type 0 where
  pub lost : List ℕ
  pub but : WroteBut before after bytes lost

-- A failure was counted, after a prefix of these bytes was written. Nothing is held back.
pub record FailsToWrite {W : Type 0} (contents : W → Option (List ℕ)) (old new : OpenStream W) (bytes : List ℕ) : Type 0 where
  pub wrote : WroteFront (contents old.stream) (contents new.stream) bytes
  pub nothing_held : new.held ≡ []
  pub faults : new.faults ≡ old.faults + 1

-- What the bytes that were held back and a piece come to.
pub record HoldsBack {W : Type 0} (contents : W → Option (List ℕ)) (old new : OpenStream W) (piece : List ℕ) : Type 0 where
  pub wrote : WroteBut (contents old.stream) (contents new.stream) (old.held ++ piece) new.held
  pub faults : new.faults ≡ old.faults

-- What a put on a stream does.
abbrev pub PutsOn : {W : Type 0} → (W → Option (List ℕ)) → OpenStream W → OpenStream W → List ℕ → Result (Unit {0}) SinkFault → Type 0
PutsOn contents old new piece (Ok done) = HoldsBack contents old new piece
PutsOn contents old new piece (Err Failed) = FailsToWrite contents old new (old.held ++ piece)
PutsOn contents old new piece (Err NoMemory) = (old.faults ≡ 2 ^ 64 - 1) × (new ≡ old)

-- What a write of bytes does, of which none is held back. It takes no memory.
abbrev pub WritesOn : {W : Type 0} → (W → Option (List ℕ)) → OpenStream W → OpenStream W → List ℕ → Result (Unit {0}) SinkFault → Type 0
WritesOn contents old new bytes (Ok done) = Appends (contents old.stream) (contents new.stream) bytes × (new.held ≡ []) × (new.faults ≡ old.faults)
WritesOn contents old new bytes (Err Failed) = FailsToWrite contents old new bytes
WritesOn contents old new bytes (Err NoMemory) = ⊥
