-- What sinks, sources of texts and streams do, computed on a few bytes.
use Rattle.std.proofs.Common.{◌≡◌, ℕ, List, [], ◌∷◌, ◌++◌, Option, Some, None, Ok, Err, ◌⊎◌, inl, inr, refl, ap, arith}
use Rattle.std.specs.Io.KnownBytes.{Appends}
use Rattle.outside_io.specs.declared.ports.sink.SinkFault.TheVariants.{Failed, NoMemory}
use Rattle.outside_io.specs.declared.for_tests.memory_sink.FailAt.{FailAt}
use Rattle.outside_io.specs.Sink.{SinkState, Took, TookBut, TookFront, Accepts, FailsOn, Writes}
use Rattle.outside_io.specs.MemorySink.{TakenBytes, as_sink, row_of, FailsBy, Puts}
use Rattle.outside_io.specs.StdSink.{OpenStream, held_limit, PutsOn, WritesOn}

-- Bytes are taken behind those before, in order, and stay specified or not.
took_behind : Took (Some (1 ∷ [])) (Some (1 ∷ 2 ∷ 3 ∷ [])) (2 ∷ 3 ∷ [])
took_behind = refl

took_before : ¬ Took (Some (1 ∷ [])) (Some (2 ∷ 1 ∷ [])) (2 ∷ [])
took_before is = absurd (cc)

took_less : ¬ Took (Some (1 ∷ [])) (Some (1 ∷ 2 ∷ [])) (2 ∷ 3 ∷ [])
took_less is = absurd (cc)

unspecified_stays : Took None None (2 ∷ []) × ¬ Took (Some []) None []
unspecified_stays = (refl, λ is. absurd (cc))

-- The bytes that are left out are the last ones.
last_left_out : TookBut (Some (9 ∷ [])) (Some (9 ∷ 1 ∷ [])) (1 ∷ 2 ∷ []) (2 ∷ [])
last_left_out = record { front = 1 ∷ []; parts = refl; took = refl }

first_left_out : ¬ TookBut (Some []) (Some (2 ∷ [])) (1 ∷ 2 ∷ []) (1 ∷ [])
first_left_out is = never is.front is.took is.parts
  where
    never : (front : List ℕ) → Took (Some []) (Some (2 ∷ [])) front → 1 ∷ 2 ∷ [] ≡ front ++ 1 ∷ [] → ⊥
    never [] took parts = absurd (cc)
    never (x ∷ []) took parts = absurd (cc)
    never (x ∷ y ∷ rest) took parts = absurd (cc)

one_byte_lost : ¬ TookBut (Some []) (Some (1 ∷ [])) (1 ∷ 2 ∷ []) []
one_byte_lost is = never is.front is.took is.parts
  where
    never : (front : List ℕ) → Took (Some []) (Some (1 ∷ [])) front → 1 ∷ 2 ∷ [] ≡ front ++ [] → ⊥
    never [] took parts = absurd (cc)
    never (x ∷ []) took parts = absurd (cc)
    never (x ∷ y ∷ rest) took parts = absurd (cc)

-- Any prefix, the whole too, and nothing else.
some_taken : TookFront (Some []) (Some (1 ∷ [])) (1 ∷ 2 ∷ []) × TookFront (Some []) (Some (1 ∷ 2 ∷ [])) (1 ∷ 2 ∷ [])
some_taken = (record { lost = 2 ∷ []; but = record { front = 1 ∷ []; parts = refl; took = refl } }, record { lost = []; but = record { front = 1 ∷ 2 ∷ []; parts = refl; took = refl } })

second_taken_alone : ¬ TookFront (Some []) (Some (2 ∷ [])) (1 ∷ 2 ∷ [])
second_taken_alone is = never is.but.front is.lost is.but.took is.but.parts
  where
    never : (front lost : List ℕ) → Took (Some []) (Some (2 ∷ [])) front → 1 ∷ 2 ∷ [] ≡ front ++ lost → ⊥
    never [] lost took parts = absurd (cc)
    never (x ∷ front) lost took parts = absurd (cc)

-- A sink accepts bytes where it has passed on a prefix of those it held and these, and holds the rest back.
abbrev state : List ℕ → List ℕ → ℕ → SinkState
state taken held faults = record { taken = Some taken; held_back = held; faults = faults }

accepts_and_holds : Accepts (state [] (1 ∷ []) 0) (state (1 ∷ 2 ∷ []) (3 ∷ []) 0) (2 ∷ 3 ∷ [])
accepts_and_holds = record { passed = record { front = 1 ∷ 2 ∷ []; parts = refl; took = refl }; faults = refl }

accepts_and_counts : ¬ Accepts (state [] [] 0) (state (1 ∷ []) [] 1) (1 ∷ [])
accepts_and_counts is = absurd (omega (arith, is.faults))

held_byte_lost : ¬ Accepts (state [] (1 ∷ []) 0) (state [] (2 ∷ []) 0) (2 ∷ [])
held_byte_lost is = never is.passed.front is.passed.took is.passed.parts
  where
    never : (front : List ℕ) → Took (Some []) (Some []) front → 1 ∷ 2 ∷ [] ≡ front ++ 2 ∷ [] → ⊥
    never [] took parts = absurd (cc)
    never (x ∷ front) took parts = absurd (cc)

-- It fails where it has passed on a prefix, holds nothing back any more, and has counted a fault.
fails_behind_a_prefix : FailsOn (state [] (1 ∷ []) 0) (state (1 ∷ []) [] 1) (2 ∷ [])
fails_behind_a_prefix = record { passed = record { lost = 2 ∷ []; but = record { front = 1 ∷ []; parts = refl; took = refl } }; nothing_held = refl; faults = omega arith }

fails_and_holds : ¬ FailsOn (state [] (1 ∷ []) 0) (state [] (1 ∷ []) 1) (2 ∷ [])
fails_and_holds is = let none = is.nothing_held in absurd (cc)

fails_uncounted : ¬ FailsOn (state [] [] 1) (state [] [] 1) (2 ∷ [])
fails_uncounted is = absurd (omega (arith, is.faults))

fails_without_what_it_held : ¬ FailsOn (state [] (1 ∷ []) 0) (state (2 ∷ []) [] 1) (2 ∷ [])
fails_without_what_it_held is = never is.passed.but.front is.passed.lost is.passed.but.took is.passed.but.parts
  where
    never : (front lost : List ℕ) → Took (Some []) (Some (2 ∷ [])) front → 1 ∷ 2 ∷ [] ≡ front ++ lost → ⊥
    never [] lost took parts = absurd (cc)
    never (x ∷ front) lost took parts = absurd (cc)

-- Several writes come to all of their bytes, to a failure on them, or to a prefix of them where memory ran out.
writes_all : Writes (state [] [] 0) (state (1 ∷ 2 ∷ []) [] 0) (1 ∷ 2 ∷ []) (Ok tt)
writes_all = record { passed = record { front = 1 ∷ 2 ∷ []; parts = refl; took = refl }; faults = refl }

writes_and_fails : Writes (state [] [] 0) (state (1 ∷ []) [] 1) (1 ∷ 2 ∷ []) (Err Failed)
writes_and_fails = record { passed = record { lost = 2 ∷ []; but = record { front = 1 ∷ []; parts = refl; took = refl } }; nothing_held = refl; faults = omega arith }

writes_till_memory_ends : Writes (state [] [] 0) (state [] (1 ∷ []) 0) (1 ∷ 2 ∷ []) (Err NoMemory)
writes_till_memory_ends = record { front = 1 ∷ []; rest = 2 ∷ []; parts = refl; accepted = record { passed = record { front = []; parts = refl; took = refl }; faults = refl } }

no_fault_where_memory_ends : ¬ Writes (state [] [] 0) (state [] [] 1) (1 ∷ 2 ∷ []) (Err NoMemory)
no_fault_where_memory_ends is = absurd (omega (arith, is.accepted.faults))

writes_others_till_memory_ends : ¬ Writes (state [] [] 0) (state (9 ∷ []) [] 0) (1 ∷ 2 ∷ []) (Err NoMemory)
writes_others_till_memory_ends is = never is.front is.rest is.accepted.passed.front is.accepted.passed.took is.accepted.passed.parts is.parts
  where
    never : (front rest passed : List ℕ) → Took (Some []) (Some (9 ∷ [])) passed → front ≡ passed ++ [] → 1 ∷ 2 ∷ [] ≡ front ++ rest → ⊥
    never [] rest [] took parts all = absurd (cc)
    never [] rest (x ∷ passed) took parts all = absurd (cc)
    never (y ∷ front) rest [] took parts all = absurd (cc)
    never (y ∷ front) rest (x ∷ passed) took parts all = absurd (cc)

writes_less_and_is_done : ¬ Writes (state [] [] 0) (state (1 ∷ []) [] 0) (1 ∷ 2 ∷ []) (Ok tt)
writes_less_and_is_done is = one_byte_lost is.passed

-- A sink in memory: its first row that names a put decides.
abbrev row : ℕ → ℕ → FailAt
row call taken = record { call = call; taken = taken }

abbrev memory : List ℕ → ℕ → ℕ → TakenBytes
memory bytes calls faults = record { bytes = bytes; failing = row 1 1 ∷ row 1 0 ∷ row 18446744073709551615 0 ∷ []; calls = calls; faults = faults }

first_row_counts : (row_of (memory [] 0 0).failing 1 ≡ Some (row 1 1)) × (row_of (memory [] 0 0).failing 2 ≡ None)
first_row_counts = (refl, refl)

sink_of_memory : as_sink (memory (9 ∷ []) 4 2) ≡ state (9 ∷ []) [] 2
sink_of_memory = refl

unnamed_put : Puts (memory (9 ∷ []) 0 0) (memory (9 ∷ 1 ∷ 2 ∷ []) 1 0) (1 ∷ 2 ∷ []) (Ok tt)
unnamed_put = (refl, refl)

unnamed_put_fails : ¬ Puts (memory [] 0 0) (memory [] 1 1) (1 ∷ []) (Err Failed)
unnamed_put_fails is = is

named_put : Puts (memory (9 ∷ []) 1 0) (memory (9 ∷ 1 ∷ []) 2 1) (1 ∷ 2 ∷ []) (Err Failed) × Puts (memory (9 ∷ []) 1 0) (memory (9 ∷ []) 2 1) (1 ∷ 2 ∷ []) (Err Failed)
named_put = (inl refl, inr refl)

named_put_takes_all : ¬ Puts (memory [] 1 0) (memory (1 ∷ 2 ∷ []) 2 1) (1 ∷ 2 ∷ []) (Err Failed)
named_put_takes_all is = never is
  where
    bytes : {new other : TakenBytes} → new ≡ other → new.bytes ≡ other.bytes
    bytes same = ap (λ (sink : TakenBytes). sink.bytes) same

    never : FailsBy (row 1 1) (memory [] 1 0) (memory (1 ∷ 2 ∷ []) 2 1) (1 ∷ 2 ∷ []) → ⊥
    never (inl same) = let one = bytes same in absurd (cc)
    never (inr same) = let none = bytes same in absurd (cc)

named_put_succeeds : ¬ Puts (memory [] 1 0) (memory (1 ∷ []) 2 0) (1 ∷ []) (Ok tt)
named_put_succeeds is = let unnamed = is.0 in absurd (cc)

memory_ends : Puts (memory [] 0 0) (memory [] 0 0) (1 ∷ []) (Err NoMemory)
memory_ends = (refl, inl refl)

memory_ends_and_is_numbered : ¬ Puts (memory [] 0 0) (memory [] 1 0) (1 ∷ []) (Err NoMemory)
memory_ends_and_is_numbered is = let calls = ap (λ (sink : TakenBytes). sink.calls) is.0 in absurd (omega (arith, calls))

numbers_end : Puts (memory [] 18446744073709551615 0) (memory [] 18446744073709551615 0) (1 ∷ []) (Err NoMemory)
numbers_end = (refl, inr refl)

memory_ends_in_a_named_put : ¬ Puts (memory [] 1 0) (memory [] 1 0) (1 ∷ []) (Err NoMemory)
memory_ends_in_a_named_put is = never is.1
  where
    never : (row_of (memory [] 1 0).failing 1 ≡ None) ⊎ ◌≡◌ {A = ℕ} 1 18446744073709551615 → ⊥
    never (inl unnamed) = absurd (cc)
    never (inr full) = absurd (omega (arith, full))

-- A stream: what was held back and a piece are written, or held back from some byte on.
abbrev stream : List ℕ → List ℕ → ℕ → OpenStream (Option (List ℕ))
stream written held faults = record { stream = Some written; held = held; faults = faults }

abbrev contents : Option (List ℕ) → Option (List ℕ)
contents written = written

most_held : held_limit ≡ 65536
most_held = refl

put_is_held : PutsOn contents (stream [] (1 ∷ []) 0) (stream [] (1 ∷ 2 ∷ []) 0) (2 ∷ []) (Ok tt)
put_is_held = record { wrote = record { front = []; parts = refl; wrote = refl }; faults = refl }

put_is_written : PutsOn contents (stream [] (1 ∷ []) 0) (stream (1 ∷ 2 ∷ []) [] 0) (2 ∷ []) (Ok tt)
put_is_written = record { wrote = record { front = 1 ∷ 2 ∷ []; parts = refl; wrote = refl }; faults = refl }

put_written_twice : ¬ PutsOn contents (stream [] [] 0) (stream (1 ∷ 1 ∷ []) [] 0) (1 ∷ []) (Ok tt)
put_written_twice is = never is.wrote.front is.wrote.wrote is.wrote.parts
  where
    never : (front : List ℕ) → Appends (Some []) (Some (1 ∷ 1 ∷ [])) front → 1 ∷ [] ≡ front ++ [] → ⊥
    never [] wrote parts = absurd (cc)
    never (x ∷ []) wrote parts = absurd (cc)
    never (x ∷ y ∷ rest) wrote parts = absurd (cc)

put_counts_a_fault : ¬ PutsOn contents (stream [] [] 0) (stream (1 ∷ []) [] 1) (1 ∷ []) (Ok tt)
put_counts_a_fault is = absurd (omega (arith, is.faults))

put_fails : PutsOn contents (stream [] (1 ∷ []) 0) (stream (1 ∷ []) [] 1) (2 ∷ []) (Err Failed)
put_fails = record { wrote = record { lost = 2 ∷ []; but = record { front = 1 ∷ []; parts = refl; wrote = refl } }; nothing_held = refl; faults = refl }

put_fails_and_holds : ¬ PutsOn contents (stream [] (1 ∷ []) 0) (stream [] (1 ∷ []) 1) (2 ∷ []) (Err Failed)
put_fails_and_holds is = let none = is.nothing_held in absurd (cc)

put_fails_twice : ¬ PutsOn contents (stream [] [] 0) (stream [] [] 2) (2 ∷ []) (Err Failed)
put_fails_twice is = absurd (omega (arith, is.faults))

put_without_numbers : PutsOn contents (stream [] [] 18446744073709551615) (stream [] [] 18446744073709551615) (1 ∷ []) (Err NoMemory)
put_without_numbers = (refl, refl)

put_without_memory : ¬ PutsOn contents (stream [] [] 0) (stream [] [] 0) (1 ∷ []) (Err NoMemory)
put_without_memory is = absurd (omega (arith, is.0))

-- A write of what was held back leaves nothing held, and needs no memory.
written_whole : WritesOn contents (stream (9 ∷ []) (1 ∷ 2 ∷ []) 0) (stream (9 ∷ 1 ∷ 2 ∷ []) [] 0) (1 ∷ 2 ∷ []) (Ok tt)
written_whole = (refl, refl, refl)

written_in_part : ¬ WritesOn contents (stream [] (1 ∷ 2 ∷ []) 0) (stream (1 ∷ []) [] 0) (1 ∷ 2 ∷ []) (Ok tt)
written_in_part is = let wrote = is.0 in absurd (cc)

written_and_held : ¬ WritesOn contents (stream [] (1 ∷ []) 0) (stream (1 ∷ []) (1 ∷ []) 0) (1 ∷ []) (Ok tt)
written_and_held is = let none = is.1 in absurd (cc)

written_and_counted : ¬ WritesOn contents (stream [] (1 ∷ []) 0) (stream (1 ∷ []) [] 1) (1 ∷ []) (Ok tt)
written_and_counted is = absurd (omega (arith, is.2))

write_fails : WritesOn contents (stream [] (1 ∷ []) 0) (stream [] [] 1) (1 ∷ []) (Err Failed)
write_fails = record { wrote = record { lost = 1 ∷ []; but = record { front = []; parts = refl; wrote = refl } }; nothing_held = refl; faults = refl }

write_without_memory : ¬ WritesOn contents (stream [] [] 18446744073709551615) (stream [] [] 18446744073709551615) [] (Err NoMemory)
write_without_memory is = is
