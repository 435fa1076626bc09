-- What a flush makes of what was put, and what was done with the line of a status.
use Rattle.std.proofs.Common.{◌≡◌, ℕ, ◌<◌, ◌≤◌, List, [], ◌++◌, Option, Result, Ok, Err, OnOk, OnErr, IfErr, refl, sym, ap, ◌∙◌, subst, arith, append-nil, append_assoc}
use Rattle.graph_plans.specs.PlanRows.{PlanRows}
use Rattle.outside_io.specs.declared.ports.sink.SinkFault.{SinkFault}
use Rattle.outside_io.specs.declared.ports.sink.SinkFault.TheVariants as fault
use Rattle.outside_io.specs.Sink.{SinkState, Took, TookFront, Accepts, FailsOn, AcceptsFront}
use Rattle.outside_io.proofs.Pieces.{took_all, took_nothing, writes_both}
use Rattle.call_status.specs.declared.status.Status.{Status}
use Rattle.call_status.specs.declared.status.Status.TheVariants.{Done}
use Rattle.call_status.specs.declared.status.Noted.{Noted}
use Rattle.call_status.specs.Delivery.{Delivered, CutShort, Delivers}
use Rattle.call_status.specs.Notes.{note_line}
use Rattle.call_status.specs.Noting.{HasNoted, TakesLine}

-- Bytes that were taken where nothing was held back before.
front_taken : (before after : SinkState) (bytes : List ℕ) → before.held_back ≡ [] → TookFront before.taken after.taken (before.held_back ++ bytes) → TookFront before.taken after.taken bytes
front_taken before after bytes none front = subst (λ held. TookFront before.taken after.taken (held ++ bytes)) none front

-- A prefix of a prefix.
front_of_part : (before after : Option (List ℕ)) (bytes front rest : List ℕ) → bytes ≡ front ++ rest → TookFront before after front → TookFront before after bytes
front_of_part before after bytes front rest parts part = record {
  lost = part.lost ++ rest;
  but = record {
    front = part.but.front;
    parts = parts ∙ ap (λ l. l ++ rest) part.but.parts ∙ append_assoc part.but.front part.lost rest;
    took = part.but.took;
  };
}

-- The whole is a prefix.
front_of_all : (before after : Option (List ℕ)) (bytes : List ℕ) → Took before after bytes → TookFront before after bytes
front_of_all before after bytes took = record { lost = []; but = record { front = bytes; parts = sym (append-nil bytes); took = took } }

-- A write that failed.
pub cut_short : (before after : SinkState) (bytes : List ℕ) → before.held_back ≡ [] → FailsOn before after bytes → CutShort before after bytes × (before.faults < after.faults)
cut_short before after bytes none failed = (record { took = front_taken before after bytes none failed.passed; nothing_held = failed.nothing_held }, failed.faults)

-- All that was accepted is taken once nothing is held back.
delivered : (before after : SinkState) (bytes : List ℕ) → before.held_back ≡ [] → after.held_back ≡ [] → Accepts before after bytes → Delivered before after bytes
delivered before after bytes none_before none_after accepted = record {
  took = subst (λ held. Took before.taken after.taken (held ++ bytes)) none_before (took_all before.taken after.taken (before.held_back ++ bytes) after.held_back none_after accepted.passed);
  nothing_held = none_after;
  faults = accepted.faults;
}

-- Where nothing was put for want of memory.
pub nothing_delivered : (state : SinkState) (bytes : List ℕ) → state.held_back ≡ [] → Delivers state state bytes (Err fault.NoMemory)
nothing_delivered state bytes none = (
  record {
    took = record { lost = bytes; but = record { front = []; parts = refl; took = took_nothing state.taken state.taken refl } };
    nothing_held = none;
  },
  omega arith,
)

-- What a flush answers.
pub record Flushes (before after : SinkState) (result : Result (Unit {0}) SinkFault) : Type 0 where
  pub ok : OnOk result (Accepts before after [])
  pub err : OnErr result (FailsOn before after [])
  pub failed : IfErr result (λ why. why ≡ fault.Failed)
  pub nothing_held : after.held_back ≡ []

-- A flush behind bytes that were accepted.
pub flush_delivers : (before between after : SinkState) (bytes : List ℕ) (result : Result (Unit {0}) SinkFault) → before.held_back ≡ [] → Accepts before between bytes → Flushes between after result → Delivers before after bytes result
flush_delivers before between after bytes (Ok done) none accepted flush =
    delivered before after bytes none flush.nothing_held (subst (Accepts before after) (append-nil bytes) (writes_both before between after bytes [] (Ok done) accepted flush.ok))
flush_delivers before between after bytes (Err fault.Failed) none accepted flush =
    cut_short before after bytes none (subst (FailsOn before after) (append-nil bytes) (writes_both before between after bytes [] (Err fault.Failed) accepted flush.err))
flush_delivers before between after bytes (Err fault.NoMemory) none accepted flush = absurd (let never : fault.NoMemory ≡ fault.Failed = flush.failed in cc)

-- A flush behind a prefix that was accepted.
pub flush_cuts : (before between after : SinkState) (bytes : List ℕ) (result : Result (Unit {0}) SinkFault) → before.held_back ≡ [] → AcceptsFront before between bytes → Flushes between after result → CutShort before after bytes × (before.faults ≤ after.faults)
flush_cuts before between after bytes result none part flush = by_result result (flush_delivers before between after part.front result none part.accepted flush)
  where
    cut : TookFront before.taken after.taken part.front → CutShort before after bytes
    cut took = record { took = front_of_part before.taken after.taken bytes part.front part.rest part.parts took; nothing_held = flush.nothing_held }

    by_result : (r : Result (Unit {0}) SinkFault) → Delivers before after part.front r → CutShort before after bytes × (before.faults ≤ after.faults)
    by_result (Ok done) whole = (cut (front_of_all before.taken after.taken part.front whole.took), omega (arith, whole.faults))
    by_result (Err fault.Failed) failed = (cut failed.0.took, omega (arith, failed.1))
    by_result (Err fault.NoMemory) failed = (cut failed.0.took, failed.1)

-- What was done with the line of a status that has one.
pub noted_line : {N : Type 0} (state : N → SinkState) (old new : N) (plan : Option PlanRows) (status told : Status) (noted : Noted) → status ≡ told → (told ≡ Done → ⊥)
    → TakesLine (state old) (state new) (note_line plan told) noted → (state new).held_back ≡ [] → HasNoted state old new (note_line plan status) status noted
noted_line state old new plan status told noted is other takes none = record {
  takes = subst (λ (s : Status). TakesLine (state old) (state new) (note_line plan s) noted) (sym is) takes;
  nothing_held = none;
  done = λ done. absurd (other (sym is ∙ done));
}
