-- What a sink does with the bytes that it is given.
use Rattle.std.specs.Prelude.{◌≡◌, ℕ, ◌<◌, List, [], ◌++◌, Option, Result, Ok, Err}
use Rattle.std.specs.Io.KnownBytes.{append_known}
use Rattle.outside_io.specs.declared.ports.sink.SinkFault.{SinkFault}
use Rattle.outside_io.specs.declared.ports.sink.SinkFault.TheVariants.{Failed, NoMemory}

-- What a sink is to its callers: the bytes that it has passed on, where it specifies them (else `None`); the
-- bytes that it has accepted and not passed on yet; and how often it has failed.
pub record SinkState : Type 0 where
  pub taken : Option (List ℕ)
  pub held_back : List ℕ
  pub faults : ℕ

-- The bytes taken are those before, followed by these. Whether they are specified stays.
abbrev pub Took : Option (List ℕ) → Option (List ℕ) → List ℕ → Type 0
Took before after bytes = after ≡ append_known before bytes

-- The bytes taken are those before, followed by these without a last part.
pub record TookBut (before after : Option (List ℕ)) (bytes last : List ℕ) : Type 0 where
  pub front : List ℕ
  pub parts : bytes ≡ front ++ last
  pub took : Took before after front

-- The bytes taken are those before, followed by a prefix of these: none, some or all of them.
pub record TookFront (before after : Option (List ℕ)) (bytes : List ℕ) : Type 0 where
  pub lost : List ℕ
  pub but : TookBut before after bytes lost

-- The sink accepted these bytes: of what it held back and these it passed on a prefix, and it holds back the rest.
pub record Accepts (before after : SinkState) (bytes : List ℕ) : Type 0 where
  pub passed : TookBut before.taken after.taken (before.held_back ++ bytes) after.held_back
  pub faults : after.faults ≡ before.faults

-- The sink failed on these bytes: of what it held back and these it passed on a prefix, and the rest is lost.
pub record FailsOn (before after : SinkState) (bytes : List ℕ) : Type 0 where
  pub passed : TookFront before.taken after.taken (before.held_back ++ bytes)
  pub nothing_held : after.held_back ≡ []
  pub faults : before.faults < after.faults

-- The sink accepted a prefix of these bytes.
pub record AcceptsFront (before after : SinkState) (bytes : List ℕ) : Type 0 where
  pub front : List ℕ
  pub rest : List ℕ
  pub parts : bytes ≡ front ++ rest
  pub accepted : Accepts before after front

-- What a write of one or several pieces answers, these bytes in all, and what the sink has then done.
abbrev pub Writes : SinkState → SinkState → List ℕ → Result (Unit {0}) SinkFault → Type 0
Writes before after bytes (Ok done) = Accepts before after bytes
Writes before after bytes (Err Failed) = FailsOn before after bytes
Writes before after bytes (Err NoMemory) = AcceptsFront before after bytes
