-- Statuses, their codes and what a put comes to, computed.
use Rattle.std.proofs.Common.{◌≡◌, ℕ, List, [], ◌∷◌, length, get_or, ◌++◌, Option, Some, None, Ok, Err, refl, arith, ap, ◌∙◌}
use Rattle.outside_io.specs.Sink.{SinkState}
use Rattle.outside_io.specs.declared.ports.sink.SinkFault.TheVariants as fault
use Rattle.graph_drafts.specs.declared.refusals.GraphError.TheVariants.{NotJson}
use Rattle.graph_plans.specs.declared.spots.Spot.TheVariants.{File}
use Rattle.journal_rules.specs.declared.entry.Why.TheVariants.{Long as TooLong}
use Rattle.legal_run.specs.declared.verdict.Break.TheVariants.{NotOpen}
use Rattle.legal_run.specs.declared.verdict.Verdict.TheVariants.{Complete as Finished, Legal, Breaks}
use Rattle.nested_runs.specs.declared.reasons.Reason.TheVariants as reason
use Rattle.call_status.specs.declared.status.Status.TheVariants.{Done, BadWords, BadGraph, NoSource, NoText, LongText, ReadFault, WriteFault, Limit, TaskFault, Stuck, NotLegal, BadJournal, NoMemory}
use Rattle.call_status.specs.declared.stop.Stop.TheVariants as stop
use Rattle.call_status.specs.Codes.{code_of}
use Rattle.call_status.specs.Statuses.{status_after, status_by, status_of}
use Rattle.call_status.specs.Stopping.{StoppedBefore}
use Rattle.call_status.specs.Delivery.{Delivers}
use Rattle.call_status.specs.declared.status.Noted.TheVariants.{Whole, Fault as NotedFault, NoMemory as NotedNothing}
use Rattle.call_status.specs.Noting.{HasNoted, TakesLine}

abbrev t : List ℕ
t = 1 ∷ []

-- The exit codes.
codes_of_all : (code_of Done ≡ 0) × (code_of BadWords ≡ 2) × (code_of (BadGraph NotJson) ≡ 3) × (code_of (NoSource File) ≡ 4) × (code_of (NoText t) ≡ 5)
codes_of_all = (refl, refl, refl, refl, refl)

codes_of_cut_runs : (code_of (Limit [] 9) ≡ 8) × (code_of (TaskFault (3 ∷ []) (TooLong 9)) ≡ 9) × (code_of (Stuck (3 ∷ [])) ≡ 10)
codes_of_cut_runs = (refl, refl, refl)

codes_of_judgements : (code_of (NotLegal 3 NotOpen) ≡ 11) × (code_of (BadJournal 2) ≡ 12)
codes_of_judgements = (refl, refl)

codes_of_faults : (code_of (LongText t) ≡ 5) × (code_of (ReadFault t) ≡ 6) × (code_of WriteFault ≡ 7) × (code_of NoMemory ≡ 13)
codes_of_faults = (refl, refl, refl, refl)

-- What stopped a call is told by the status of the same name.
stops_reported : (status_of (stop.NoText t) ≡ NoText t) × (status_of (stop.LongText t) ≡ LongText t) × (status_of (stop.ReadFault t) ≡ ReadFault t) × (status_of (stop.NoSource File) ≡ NoSource File) × (status_of (stop.BadJournal 2) ≡ BadJournal 2) × (status_of stop.NoMemory ≡ NoMemory)
stops_reported = (refl, refl, refl, refl, refl, refl)

told_of_a_graph : status_of (stop.BadGraph NotJson) ≡ BadGraph NotJson
told_of_a_graph = refl

-- The status of a run tells its reason.
after_fine_run : status_after reason.Fine ≡ Done
after_fine_run = refl

after_cut_runs : (status_after (reason.Limit (3 ∷ []) 9) ≡ Limit (3 ∷ []) 9) × (status_after (reason.Stuck (3 ∷ [])) ≡ Stuck (3 ∷ [])) × (status_after (reason.Fault (3 ∷ []) (TooLong 9)) ≡ TaskFault (3 ∷ []) (TooLong 9))
after_cut_runs = (refl, refl, refl)

-- The status of a verdict.
status_of_finished : status_by Finished ≡ Done
status_of_finished = refl

status_of_legal : status_by Legal ≡ Done
status_of_legal = refl

status_of_a_break : status_by (Breaks 4 NotOpen) ≡ NotLegal 4 NotOpen
status_of_a_break = refl

-- A call that stopped has come to nothing, and its status tells why.
stopped_at_a_text : StoppedBefore (λ why. why ≡ stop.NoText t) (NoText t) (Unit {0})
stopped_at_a_text = record { why = stop.NoText t; stops = refl; reported = refl; none = tt }

stopped_after_something : ¬ StoppedBefore (λ why. why ≡ stop.NoText t) (NoText t) ⊥
stopped_after_something is = is.none

told_for_another_reason : ¬ StoppedBefore (λ why. why ≡ stop.NoText t) (LongText t) (Unit {0})
told_for_another_reason is = let same : LongText t ≡ NoText t = is.reported ∙ ap status_of is.stops in absurd (cc)

stopped_for_nothing : ¬ StoppedBefore (λ why. ⊥) NoMemory (Unit {0})
stopped_for_nothing is = is.stops

-- What a put comes to, of two bytes.
abbrev sink : List ℕ → ℕ → SinkState
sink taken faults = record { taken = Some taken; held_back = []; faults = faults }

abbrev known_length : Option (List ℕ) → ℕ
known_length None = 0
known_length (Some bytes) = length bytes

put_whole : Delivers (sink [] 0) (sink (7 ∷ 8 ∷ []) 0) (7 ∷ 8 ∷ []) (Ok tt)
put_whole = record { took = refl; nothing_held = refl; faults = refl }

put_in_part : ¬ Delivers (sink [] 0) (sink (7 ∷ []) 0) (7 ∷ 8 ∷ []) (Ok tt)
put_in_part is = let took : Some (7 ∷ []) ≡ Some (7 ∷ 8 ∷ []) = is.took in absurd (omega (arith, ap known_length took))

fault_beside_a_whole_put : ¬ Delivers (sink [] 0) (sink (7 ∷ []) 1) (7 ∷ []) (Ok tt)
fault_beside_a_whole_put is = absurd (omega (arith, is.faults))

put_held_back : ¬ Delivers (sink [] 0) (record { taken = Some []; held_back = 7 ∷ []; faults = 0 }) (7 ∷ []) (Ok tt)
put_held_back is = let none = is.nothing_held in absurd (cc)

failed_put_not_counted : ¬ Delivers (sink [] 0) (sink (7 ∷ []) 0) (7 ∷ 8 ∷ []) (Err fault.Failed)
failed_put_not_counted is = absurd (omega (arith, is.1))

put_failed : Delivers (sink [] 0) (sink (7 ∷ []) 1) (7 ∷ 8 ∷ []) (Err fault.Failed)
put_failed = (record { took = record { lost = 8 ∷ []; but = record { front = 7 ∷ []; parts = refl; took = refl } }; nothing_held = refl }, omega arith)

put_without_memory : Delivers (sink [] 0) (sink (7 ∷ []) 0) (7 ∷ 8 ∷ []) (Err fault.NoMemory)
put_without_memory = (record { took = record { lost = 8 ∷ []; but = record { front = 7 ∷ []; parts = refl; took = refl } }; nothing_held = refl }, omega arith)

other_bytes_put : ¬ Delivers (sink [] 0) (sink (9 ∷ []) 1) (7 ∷ 8 ∷ []) (Err fault.Failed)
other_bytes_put is = not_in_front is.0.took.but.front is.0.took.lost is.0.took.but.parts is.0.took.but.took
  where
    not_in_front : (front lost : List ℕ) → ◌≡◌ {A = List ℕ} (7 ∷ 8 ∷ []) (front ++ lost) → ◌≡◌ {A = Option (List ℕ)} (Some (9 ∷ [])) (Some front) → ⊥
    not_in_front [] lost parts took = let same : ◌≡◌ {A = List ℕ} (9 ∷ []) [] = cc in absurd (cc)
    not_in_front (x ∷ front) lost parts took = let nine : ◌≡◌ {A = List ℕ} (9 ∷ []) (x ∷ front) = cc in absurd (omega (arith, ap (λ xs. get_or xs 0 0) nine, ap (λ xs. get_or xs 0 0) parts))

put_held_back_without_memory : ¬ Delivers (sink [] 0) (record { taken = Some []; held_back = 7 ∷ []; faults = 0 }) (7 ∷ []) (Err fault.NoMemory)
put_held_back_without_memory is = let none = is.0.nothing_held in absurd (cc)

faults_forgotten_without_memory : ¬ Delivers (sink [] 2) (sink [] 1) (7 ∷ []) (Err fault.NoMemory)
faults_forgotten_without_memory is = absurd (omega (arith, is.1))

failed_put_held_back : ¬ Delivers (sink [] 0) (record { taken = Some []; held_back = 7 ∷ []; faults = 1 }) (7 ∷ []) (Err fault.Failed)
failed_put_held_back is = let none = is.0.nothing_held in absurd (cc)

-- What becomes of the line of a status.
line_taken : HasNoted {N = SinkState} (λ s. s) (sink [] 0) (sink (7 ∷ 8 ∷ []) 0) (7 ∷ 8 ∷ []) (NoText t) Whole
line_taken = record { takes = put_whole; nothing_held = refl; done = λ (same : NoText t ≡ Done). absurd (cc) }

line_in_part : ¬ TakesLine (sink [] 0) (sink (7 ∷ []) 0) (7 ∷ 8 ∷ []) Whole
line_in_part = put_in_part

line_failed : TakesLine (sink [] 0) (sink (7 ∷ []) 1) (7 ∷ 8 ∷ []) NotedFault
line_failed = put_failed

line_failed_not_counted : ¬ TakesLine (sink [] 0) (sink (7 ∷ []) 0) (7 ∷ 8 ∷ []) NotedFault
line_failed_not_counted = failed_put_not_counted

line_without_memory : ¬ TakesLine (sink [] 0) (sink (7 ∷ []) 0) (7 ∷ 8 ∷ []) NotedNothing
line_without_memory same = let bytes : Some (7 ∷ []) ≡ Some [] = ap (λ (s : SinkState). s.taken) same in absurd (omega (arith, ap known_length bytes))

line_held_back : ¬ HasNoted {N = SinkState} (λ s. s) (sink [] 0) (record { taken = Some []; held_back = 7 ∷ []; faults = 0 }) (7 ∷ []) (NoText t) Whole
line_held_back noted = let none = noted.nothing_held in absurd (cc)

line_of_done : ¬ HasNoted {N = SinkState} (λ s. s) (sink [] 0) (sink (7 ∷ []) 0) (7 ∷ []) Done Whole
line_of_done noted = let bytes : Some (7 ∷ []) ≡ Some [] = ap (λ (s : SinkState). s.taken) ((noted.done refl).1) in absurd (omega (arith, ap known_length bytes))

nothing_noted_of_done : ¬ HasNoted {N = SinkState} (λ s. s) (sink [] 0) (sink [] 0) [] Done NotedNothing
nothing_noted_of_done noted = let same : NotedNothing ≡ Whole = (noted.done refl).0 in absurd (cc)
