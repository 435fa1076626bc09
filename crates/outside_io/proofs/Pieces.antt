-- What a sink has done after several writes, one after another.
use Rattle.std.proofs.Common.{◌≡◌, ◌⊎◌, inl, inr, ◌<◌, ℕ, ◌+◌, List, [], ◌∷◌, ◌++◌, length, take, drop, slice_index_or, Option, Some, None, Result, Ok, Err, refl, ap, sym, ◌∙◌, subst, append_assoc, append-nil}
use Rattle.std.specs.List.{flat_map}
use Rattle.std.proofs.lemmas.List.{take_more, take-append-drop}
use Rattle.std.proofs.lemmas.Grind.{flat_map-append}
use Rattle.std.specs.Io.KnownBytes.{append_known}
use Rattle.outside_io.specs.declared.ports.sink.SinkFault.{SinkFault}
use Rattle.outside_io.specs.declared.ports.sink.SinkFault.TheVariants.{Failed, NoMemory}
use Rattle.outside_io.specs.Sink.{SinkState, Took, TookBut, Accepts, FailsOn, Writes}

-- Known bytes followed by these and then by those are followed by both.
append_known-append : (before : Option (List ℕ)) (first second : List ℕ) → append_known (append_known before first) second ≡ append_known before (first ++ second)
append_known-append None first second = refl
append_known-append (Some bytes) first second = ap Some (append_assoc bytes first second)

-- Known bytes followed by none are the same.
pub append_known-nil : (before : Option (List ℕ)) → append_known before [] ≡ before
append_known-nil None = refl
append_known-nil (Some bytes) = ap Some (append-nil bytes)

-- Where all is as before, no bytes were taken.
pub took_nothing : (before after : Option (List ℕ)) → after ≡ before → Took before after []
took_nothing before after same = same ∙ sym (append_known-nil before)

-- All of the bytes, without a last part that is empty.
pub took_whole : (before after : Option (List ℕ)) (bytes : List ℕ) → Took before after bytes → TookBut before after bytes []
took_whole before after bytes took = record { front = bytes; parts = sym (append-nil bytes); took = took }

pub took_all : (before after : Option (List ℕ)) (bytes last : List ℕ) → last ≡ [] → TookBut before after bytes last → Took before after bytes
took_all before after bytes last none part = subst (Took before after) (sym (part.parts ∙ ap (λ l. part.front ++ l) none ∙ append-nil part.front)) part.took

-- One part after another, where the second begins with what the first left.
but_after_but : (before between after : Option (List ℕ)) (held first left second last : List ℕ) → TookBut before between (held ++ first) left → TookBut between after (left ++ second) last → TookBut before after (held ++ (first ++ second)) last
but_after_but before between after held first left second last part next = record {
  front = part.front ++ next.front;
  parts = sym (append_assoc held first second) ∙ ap (λ l. l ++ second) part.parts ∙ append_assoc part.front left second ∙ ap (λ l. part.front ++ l) next.parts ∙ sym (append_assoc part.front next.front last);
  took = next.took ∙ ap (λ known. append_known known next.front) part.took ∙ append_known-append before part.front next.front;
}

-- Of more bytes more is left.
but_of_more : (before after : Option (List ℕ)) (held first more last : List ℕ) → TookBut before after (held ++ first) last → TookBut before after (held ++ (first ++ more)) (last ++ more)
but_of_more before after held first more last part = record {
  front = part.front;
  parts = sym (append_assoc held first more) ∙ ap (λ l. l ++ more) part.parts ∙ append_assoc part.front last more;
  took = part.took;
}

-- Where all is as before, no bytes were accepted.
pub accepts_nothing : (before after : SinkState) → after ≡ before → Accepts before after []
accepts_nothing before after same = record {
  passed = record {
    front = [];
    parts = append-nil before.held_back ∙ sym (ap (λ (state : SinkState). state.held_back) same);
    took = took_nothing before.taken after.taken (ap (λ (state : SinkState). state.taken) same);
  };
  faults = ap (λ (state : SinkState). state.faults) same;
}

-- A sink that holds nothing back accepts a piece where it takes the whole of it.
pub accepts_whole : (before after : SinkState) (bytes : List ℕ) → before.held_back ≡ [] → after.held_back ≡ [] → Took before.taken after.taken bytes → after.faults ≡ before.faults → Accepts before after bytes
accepts_whole before after bytes none_before none_after took faults = record {
  passed = record {
    front = bytes;
    parts = ap (λ held. held ++ bytes) none_before ∙ sym (append-nil bytes) ∙ ap (λ held. bytes ++ held) (sym none_after);
    took = took;
  };
  faults = faults;
}

accepts_both : (before between after : SinkState) (first second : List ℕ) → Accepts before between first → Accepts between after second → Accepts before after (first ++ second)
accepts_both before between after first second one other = record {
  passed = but_after_but before.taken between.taken after.taken before.held_back first between.held_back second after.held_back one.passed other.passed;
  faults = other.faults ∙ one.faults;
}

-- A write after one that was accepted is a write of both.
pub writes_both : (before between after : SinkState) (first second : List ℕ) (result : Result (Unit {0}) SinkFault) → Accepts before between first → Writes between after second result → Writes before after (first ++ second) result
writes_both before between after first second (Ok done) one other = accepts_both before between after first second one other
writes_both before between after first second (Err Failed) one other = record {
  passed = record {
    lost = other.passed.lost;
    but = but_after_but before.taken between.taken after.taken before.held_back first between.held_back second other.passed.lost one.passed other.passed.but;
  };
  nothing_held = other.nothing_held;
  faults = subst (λ n. n < after.faults) one.faults other.faults;
}
writes_both before between after first second (Err NoMemory) one other = record {
  front = first ++ other.front;
  rest = other.rest;
  parts = ap (λ l. first ++ l) other.parts ∙ sym (append_assoc first other.front other.rest);
  accepted = accepts_both before between after first other.front one other.accepted;
}

-- A write that ends in an error is one of more bytes too.
pub writes_no_more : (before after : SinkState) (first more : List ℕ) (fault : SinkFault) → Writes before after first (Err fault) → Writes before after (first ++ more) (Err fault)
writes_no_more before after first more Failed cut = record {
  passed = record {
    lost = cut.passed.lost ++ more;
    but = but_of_more before.taken after.taken before.held_back first more cut.passed.lost cut.passed.but;
  };
  nothing_held = cut.nothing_held;
  faults = cut.faults;
}
writes_no_more before after first more NoMemory cut = record {
  front = cut.front;
  rest = cut.rest ++ more;
  parts = ap (λ l. l ++ more) cut.parts ∙ append_assoc cut.front cut.rest more;
  accepted = cut.accepted;
}

-- An allocation that fails before the first put is a write that was cut short.
pub writes_nothing : (before after : SinkState) (bytes : List ℕ) → after ≡ before → Writes before after bytes (Err NoMemory)
writes_nothing before after bytes same = record { front = []; rest = bytes; parts = refl; accepted = accepts_nothing before after same }

-- The text of the first rows and that of the row at the next place are the text of one row more.
flat_map-next : {Row : Type 0} (text : Row → List ℕ) (rows : List Row) (i : ℕ) (row : Row) → i < length rows → row ≡ slice_index_or rows i row → flat_map text (take (i + 1) rows) ≡ flat_map text (take i rows) ++ text row
flat_map-next text rows i row in_range is =
    let more : take (i + 1) rows ≡ take i rows ++ row ∷ [] = take_more rows i row in_range ∙ ap (λ last. take i rows ++ last ∷ []) (sym is) in
    ap (flat_map text) more ∙ flat_map-append text (take i rows) (row ∷ []) ∙ ap (λ last. flat_map text (take i rows) ++ last) (append-nil (text row))

-- The text of all rows is that of the first rows, of the row at the next place and of those behind it.
flat_map-split : {Row : Type 0} (text : Row → List ℕ) (rows : List Row) (i : ℕ) (row : Row) → i < length rows → row ≡ slice_index_or rows i row → flat_map text rows ≡ (flat_map text (take i rows) ++ text row) ++ flat_map text (drop (i + 1) rows)
flat_map-split text rows i row in_range is =
    ap (flat_map text) (sym (take-append-drop (i + 1) rows))
    ∙ flat_map-append text (take (i + 1) rows) (drop (i + 1) rows)
    ∙ ap (λ front. front ++ flat_map text (drop (i + 1) rows)) (flat_map-next text rows i row in_range is)

-- In a loop over rows: after the row at place i, the texts of one row more were accepted.
pub row_written : {Row : Type 0} (text : Row → List ℕ) (rows : List Row) (i : ℕ) (row : Row) (before between after : SinkState) → i < length rows → row ≡ slice_index_or rows i row → Accepts before between (flat_map text (take i rows)) → Accepts between after (text row) → Accepts before after (flat_map text (take (i + 1) rows))
row_written text rows i row before between after in_range is whole next =
    rw (flat_map-next text rows i row in_range is) (accepts_both before between after _ _ whole next)

-- In a loop over rows: where the write of the row at place i ends in an error, so does that of all rows.
pub row_refused : {Row : Type 0} (text : Row → List ℕ) (rows : List Row) (i : ℕ) (row : Row) (before between after : SinkState) (fault : SinkFault) → i < length rows → row ≡ slice_index_or rows i row → Accepts before between (flat_map text (take i rows)) → Writes between after (text row) (Err fault) → Writes before after (flat_map text rows) (Err fault)
row_refused text rows i row before between after fault in_range is whole next =
    subst (λ bytes. Writes before after bytes (Err fault)) (sym (flat_map-split text rows i row in_range is))
    (writes_no_more before after (flat_map text (take i rows) ++ text row) (flat_map text (drop (i + 1) rows)) fault (writes_both before between after (flat_map text (take i rows)) (text row) (Err fault) whole next))

-- A put in memory that is to fail took so many bytes of its piece, or none.
pub fails_by : (before after piece : List ℕ) (count faults more : ℕ) → faults < more → (after ≡ before ++ take count piece) ⊎ (after ≡ before)
    → FailsOn (record { taken = Some before; held_back = []; faults = faults }) (record { taken = Some after; held_back = []; faults = more }) piece
fails_by before after piece count faults more rises (inl some) = record {
  passed = record {
    lost = drop count piece;
    but = record { front = take count piece; parts = sym (take-append-drop count piece); took = ap Some some };
  };
  nothing_held = refl;
  faults = rises;
}
fails_by before after piece count faults more rises (inr none) = record {
  passed = record {
    lost = piece;
    but = record { front = []; parts = refl; took = took_nothing (Some before) (Some after) (ap Some none) };
  };
  nothing_held = refl;
  faults = rises;
}
