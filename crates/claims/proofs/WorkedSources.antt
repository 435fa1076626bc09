-- What a read finds and how sources in memory count, what a start's inputs hold, and what a watcher was told, computed
-- on small ones.
use Rattle.std.proofs.Common.{◌≡◌, ℕ, zero, suc, ◌<◌, List, [], ◌∷◌, length, Some, None, Ok, Err, refl, ap, arith}
use Rattle.std.specs.Prelude.{Contains, slice_index_or, if◌then◌else◌, bytes_eq}
use Rattle.std.specs.Arc.{arc_value}
use Rattle.std.specs.Vec.{vec_capacity}
use Rattle.std.specs.Global.{Global}
use Rattle.std.specs.declared.sync.Arc.{Arc}
use Rattle.outside_io.specs.declared.ports.texts.Found.TheVariants.{Text, Missing, Longer}
use Rattle.outside_io.specs.declared.ports.texts.TextsFault.TheVariants.{Failed, NoMemory}
use Rattle.outside_io.specs.Texts.{Finds, IsHeld, IsWithin, SourceTexts, failed_after}
use Rattle.outside_io.specs.MemoryTexts.{HeldTexts, AreNamed, text_under, CountsCall}
use Rattle.join_words.specs.declared.ins.Given.TheVariants.{Value, First, Nothing}
use Rattle.join_words.specs.declared.ins.Ins.{Ins}
use Rattle.join_words.specs.Ins.{value, first, nothing, found_of, parts_of, room_of}
use Rattle.std.specs.declared.vec.Vec.{Vec}
use Rattle.journal_rules.specs.declared.span.Span.{Span}
use Rattle.span_profile.specs.Watch.{IsToldSince, TellsOn, counted, fuse, listed, one_more, passed}
use Rattle.span_profile.specs.declared.span_count.SpanCount.{SpanCount}

-- A text of just the most bytes is found whole, and one of more is longer.
found_whole : Finds (Some (1 ∷ 2 ∷ [])) 2 (Text (1 ∷ 2 ∷ []))
found_whole = (refl, omega arith)

found_too_long : ¬ Finds (Some (1 ∷ 2 ∷ [])) 1 (Text (1 ∷ 2 ∷ []))
found_too_long is = absurd (omega (arith, is.1))

found_in_part : ¬ Finds (Some (1 ∷ 2 ∷ [])) 2 (Text (1 ∷ []))
found_in_part is = let same = is.0 in absurd (cc)

found_nowhere : ¬ Finds None 2 (Text [])
found_nowhere is = let same = is.0 in absurd (cc)

longer : Finds (Some (1 ∷ 2 ∷ [])) 1 Longer
longer = omega arith

not_longer : ¬ Finds (Some (1 ∷ 2 ∷ [])) 2 Longer
not_longer is = absurd (omega (arith, is))

nothing_is_longer : ¬ Finds None 0 Longer
nothing_is_longer is = is

missing : Finds None 0 Missing
missing = refl

empty_is_not_missing : ¬ Finds (Some []) 0 Missing
empty_is_not_missing is = absurd (cc)

within : IsWithin 2 (Text (1 ∷ 2 ∷ [])) × IsWithin 0 Missing × IsWithin 0 Longer
within = (omega arith, tt, tt)

not_within : ¬ IsWithin 1 (Text (1 ∷ 2 ∷ []))
not_within is = absurd (omega (arith, is))

-- A name holds its own bytes, as many as may be read at most; of a source that doesn't specify what it holds only
-- their number is said.
abbrev two_texts : SourceTexts
two_texts = Some (λ name. if bytes_eq name (0 ∷ []) then Some (1 ∷ []) else (if bytes_eq name (1 ∷ []) then Some (2 ∷ 3 ∷ []) else None))

own_bytes : IsHeld two_texts (1 ∷ []) 2 (2 ∷ 3 ∷ [])
own_bytes = (refl, omega arith)

bytes_of_another : ¬ IsHeld two_texts (1 ∷ []) 2 (1 ∷ [])
bytes_of_another is = absurd (cc)

more_than_may_be_read : ¬ IsHeld two_texts (1 ∷ []) 1 (2 ∷ 3 ∷ [])
more_than_may_be_read is = absurd (omega (arith, is.1))

unspecified : IsHeld None (1 ∷ []) 2 (9 ∷ [])
unspecified = (tt, omega arith)

unspecified_but_too_long : ¬ IsHeld None (1 ∷ []) 0 (9 ∷ [])
unspecified_but_too_long is = absurd (omega (arith, is.1))

-- The name of a read that fails comes behind those of earlier ones, and no other read changes them.
failed_reads : (failed_after ((7 ∷ []) ∷ []) (8 ∷ []) (Err Failed) ≡ (7 ∷ []) ∷ (8 ∷ []) ∷ [])
    × (failed_after ((7 ∷ []) ∷ []) (8 ∷ []) (Err NoMemory) ≡ (7 ∷ []) ∷ [])
    × (failed_after ((7 ∷ []) ∷ []) (8 ∷ []) (Ok Missing) ≡ (7 ∷ []) ∷ [])
failed_reads = (refl, refl, refl)

-- Each text stands under the name at its place, and names differ.
two_names : (text_under ((1 ∷ []) ∷ (1 ∷ 2 ∷ []) ∷ []) ((7 ∷ []) ∷ (8 ∷ []) ∷ []) (1 ∷ 2 ∷ []) ≡ Some (8 ∷ [])) × (text_under ((1 ∷ []) ∷ (1 ∷ 2 ∷ []) ∷ []) ((7 ∷ []) ∷ (8 ∷ []) ∷ []) (1 ∷ []) ≡ Some (7 ∷ []))
two_names = (refl, refl)

no_such_name : text_under ((1 ∷ 2 ∷ []) ∷ []) ((7 ∷ []) ∷ []) (1 ∷ []) ≡ None
no_such_name = refl

one_name : AreNamed ((1 ∷ []) ∷ []) ((7 ∷ []) ∷ [])
one_name = record { paired = refl; differ = λ i j d before below. absurd (omega arith) }

name_without_a_text : ¬ AreNamed ((1 ∷ []) ∷ []) []
name_without_a_text is = absurd (omega (arith, is.paired))

one_name_twice : ¬ AreNamed ((1 ∷ []) ∷ (1 ∷ []) ∷ []) ([] ∷ [] ∷ [])
one_name_twice is = is.differ 0 1 [] (omega arith) (omega arith) refl

-- The calls that are named fail, and no other.
abbrev held : ℕ → List (List ℕ) → HeldTexts
held calls failed = record { names = []; texts = []; failing = 2 ∷ 4 ∷ 18446744073709551615 ∷ []; calls = calls; failed = failed }

abbrev a_name : List ℕ
a_name = 7 ∷ []

named_call_fails : CountsCall (held 4 []) (held 5 (a_name ∷ [])) a_name (Err Failed)
named_call_fails = ((1, omega arith, refl), refl)

failure_unnamed : ¬ CountsCall (held 4 []) (held 5 []) a_name (Err Failed)
failure_unnamed is = let failed = ap (λ (texts : HeldTexts). length texts.failed) is.1 in absurd (omega (arith, failed))

failure_under_another_name : ¬ CountsCall (held 4 []) (held 5 ([] ∷ [])) a_name (Err Failed)
failure_under_another_name is = let failed : [] ∷ [] ≡ a_name ∷ [] = ap (λ (texts : HeldTexts). texts.failed) is.1 in absurd (cc)

abbrev is_named : ℕ → Type 0
is_named call = Contains (2 ∷ 4 ∷ 18446744073709551615 ∷ []) call

not_named : ¬ is_named 3
not_named is = never is.0 is.1 is.2
  where
    never : (k : ℕ) → k < 3 → ◌≡◌ {A = ℕ} (slice_index_or (2 ∷ 4 ∷ 18446744073709551615 ∷ []) k 3) 3 → ⊥
    never zero below at = absurd (omega (arith, at))
    never (suc zero) below at = absurd (omega (arith, at))
    never (suc (suc zero)) below at = absurd (omega (arith, at))
    never (suc (suc (suc k))) below at = absurd (omega (arith, below))

unnamed_call_fails : ¬ CountsCall (held 3 []) (held 4 (a_name ∷ [])) a_name (Err Failed)
unnamed_call_fails is = not_named is.0

unnamed_call : CountsCall (held 3 []) (held 4 []) a_name (Ok Missing)
unnamed_call = (not_named, refl)

named_call_succeeds : ¬ CountsCall (held 4 []) (held 5 []) a_name (Ok Missing)
named_call_succeeds is = is.0 (1, omega arith, refl)

call_without_a_number : ¬ CountsCall (held 3 []) (held 3 []) a_name (Ok Missing)
call_without_a_number is = let calls = ap (λ (texts : HeldTexts). texts.calls) is.1 in absurd (omega (arith, calls))

memory_ends : CountsCall (held 3 []) (held 3 []) a_name (Err NoMemory)
memory_ends = refl

memory_ends_and_is_numbered : ¬ CountsCall (held 3 []) (held 4 []) a_name (Err NoMemory)
memory_ends_and_is_numbered is = let calls = ap (λ (texts : HeldTexts). texts.calls) is in absurd (omega (arith, calls))

-- What a part of a start's inputs holds, whoever shares it.
-- There may be room for more parts than there are.
room_without_parts : (ins : Ins ℕ) → parts_of ins ≡ [] → vec_capacity ins.others ≡ 3 → (room_of ins ≡ 4) × (length (parts_of ins) ≡ 0)
room_without_parts ins none three = (ap suc three, ap length none)

held_by_parts : (shared : Arc ℕ Global) → (found_of (Value 3 shared) ≡ value (arc_value shared)) × (found_of {V = ℕ} First ≡ first) × (found_of {V = ℕ} Nothing ≡ nothing)
held_by_parts shared = (refl, refl, refl)

-- A watcher counts one more, and stays at the greatest number of 64 bits.
counts_on : (one_more 0 ≡ 1) × (one_more 18446744073709551614 ≡ 18446744073709551615) × (one_more 18446744073709551615 ≡ 18446744073709551615)
counts_on = (refl, refl, refl)

told_so_far : counted (record { count = 7 }) ≡ 7
told_so_far = refl

told_to_a_fuse : (passed (record { count = 3; passes = 7 }) ≡ 3) × (fuse (record { count = 3; passes = 7 }) ≡ 7)
told_to_a_fuse = (refl, refl)

told_in_order : (one two : Span) (spans : Vec Span Global) → spans.items ≡ one ∷ two ∷ [] → listed (record { spans = spans }) ≡ one ∷ two ∷ []
told_in_order one two spans is = is

-- A watcher that counts 5, and stays at the greatest number.
abbrev at_count : ℕ → SpanCount
at_count n = record { count = n }

told_since : IsToldSince counted 2 3 (at_count 5) × ¬ IsToldSince counted 2 3 (at_count 6) × IsToldSince counted 18446744073709551614 3 (at_count 18446744073709551615)
told_since = (refl, (λ is. absurd (omega (arith, is))), refl)

tells_on : TellsOn counted 1 2 (at_count 5) (at_count 6)
tells_on before since = omega (arith, since)

tells_on_too_far : ¬ TellsOn counted 1 2 (at_count 5) (at_count 7)
tells_on_too_far is = absurd (omega (arith, is 4 refl))
