-- Bytes that were put on a sink in memory.
use Rattle.std.specs.Prelude.{◌≡◌, ◌⊎◌, ℕ, ◌+◌, ◌-◌, ◌^◌, ◌==◌, List, [], ◌++◌, take, find, Option, Some, None, IsSomeAnd, Result, Ok, Err}
use Rattle.outside_io.specs.declared.for_tests.memory_sink.FailAt.{FailAt}
use Rattle.outside_io.specs.Sink.{SinkState}
use Rattle.outside_io.specs.declared.ports.sink.SinkFault.{SinkFault}
use Rattle.outside_io.specs.declared.ports.sink.SinkFault.TheVariants.{Failed, NoMemory}

-- The bytes taken, the puts that are to fail, and how many puts and faults there were.
pub record TakenBytes : Type 0 where
  pub bytes : List ℕ
  pub failing : List FailAt
  pub calls : ℕ
  pub faults : ℕ

-- What the sink is to its callers: it specifies what it has taken, and holds nothing back.
abbrev pub as_sink : TakenBytes → SinkState
as_sink sink = record { taken = Some sink.bytes; held_back = []; faults = sink.faults }

-- The first row that names this put.
abbrev pub row_of : List FailAt → ℕ → Option FailAt
row_of rows call = find (λ row. row.call == call) rows

-- What a put leaves that fails by this row: as many bytes of the piece are taken as the row says, or all of a
-- shorter piece; or none where the allocation for them failed. The put is numbered, and its fault counted.
abbrev pub FailsBy : FailAt → TakenBytes → TakenBytes → List ℕ → Type 0
FailsBy row old new piece =
    (new ≡ record old { bytes = old.bytes ++ take row.taken piece; calls = old.calls + 1; faults = old.faults + 1 })
    ⊎ (new ≡ record old { calls = old.calls + 1; faults = old.faults + 1 })

-- What a put answers and leaves. Where no row names it, it takes the whole piece, or nothing where the allocation
-- failed; else it fails. Where the numbers have run out it answers `NoMemory`.
abbrev pub Puts : TakenBytes → TakenBytes → List ℕ → Result (Unit {0}) SinkFault → Type 0
Puts old new piece (Ok done) =
    (row_of old.failing old.calls ≡ None) × (new ≡ record old { bytes = old.bytes ++ piece; calls = old.calls + 1 })
Puts old new piece (Err Failed) = IsSomeAnd (row_of old.failing old.calls) (λ row. FailsBy row old new piece)
Puts old new piece (Err NoMemory) = (new ≡ old) × ((row_of old.failing old.calls ≡ None) ⊎ (old.calls ≡ 2 ^ 64 - 1))
