-- A machine's parts fit together after each step.
use Rattle.std.proofs.Common.{◌≡◌, ◌⊎◌, inl, inr, ℕ, ◌+◌, ◌*◌, ◌<◌, ◌≤◌, ◌^◌, Bool, true, false, List, [], ◌∷◌, ◌++◌, length, sym, refl, ap, ◌∙◌, subst, arith, get_or, Some, None, Option, is_some, ◌&&◌}
use Rattle.std.specs.Prelude.{count_by, slice_get, ◌==◌, MatchOption}
use Rattle.std.specs.Option.{option_and_then}
use Rattle.std.proofs.lemmas.Bool.{cases_lt}
use Rattle.std.proofs.lemmas.List.{length_push, get_or_append_left, get_or_push}
use Rattle.std.proofs.lemmas.Option.{slice_get_past}
use Rattle.task_graph.specs.NetRows.{NetRows}
use Rattle.task_graph.specs.Net.{IsNet}
use Rattle.journal_rules.specs.declared.entry.Cause.{Cause}
use Rattle.journal_rules.specs.declared.entry.Part.{Part}
use Rattle.journal_rules.specs.declared.entry.Why.{Why}
use Rattle.journal_rules.specs.declared.entry.DropWhy.{DropWhy}
use Rattle.journal_rules.specs.declared.entry.Entry.{Entry}
use Rattle.journal_rules.specs.declared.entry.Entry.TheVariants.{Start, End, Fault, Drop}
use Rattle.legal_run.specs.declared.verdict.Break.{Break}
use Rattle.journal_rules.specs.declared.counts.Counts.{Counts}
use Rattle.net_machine.specs.declared.machine_error.MachineError.{MachineError}
use Rattle.journal_rules.specs.Counts.{started, is_open, closes}
use Rattle.journal_rules.specs.DataRule.{DataRule, edges_of}
use Rattle.journal_rules.specs.ShapeLegal.{MayFollow}
use Rattle.journal_rules.specs.Waiting.{waiting_parts}
use Rattle.legal_run.specs.MachineState.{MachineState}
use Rattle.net_machine.specs.Machine.{Refuses, break_of}
use Rattle.legal_run.specs.Refusal.{IsRefusal}
use Rattle.journal_rules.specs.inside.Reached.{IsReached, ClosesTask}
use Rattle.journal_rules.specs.inside.Releases.{CountsReleases, IsUseOf}
use Rattle.journal_rules.specs.inside.Units.{CountsUnits}
use Rattle.net_machine.specs.inside.Waits.{TellsWaiting}
use Rattle.journal_rules.specs.inside.Counted.{CountsOpen, IsCounted, IsPosition}
use Rattle.net_machine.specs.inside.Kept.{IsLed, IsMachineFor}
use Rattle.journal_rules.proofs.Snoc.{EachAfter-push}
use Rattle.journal_rules.proofs.Reaching.{reached_push, reached_empty, released_held}
use Rattle.journal_rules.proofs.CountLaws.{can_grow, is_open_push_last}
use Rattle.journal_rules.proofs.ReleaseLaws.{start_use, drop_use}
use Rattle.net_machine.proofs.WaitingLemmas.{waits_start, waits_drop, waits_end, waits_fault, waits_empty, parts_allowed, tells_fault}

-- at first
pub led_empty : (net : NetRows) (limit : ℕ) → IsNet net → IsLed net limit []
led_empty net limit rows = record { reached = reached_empty net limit rows; meets_data = tt; waits = waits_empty net }

-- after each entry
pub led_start : (net : NetRows) (limit t : ℕ) (h : List Entry) (cause : Cause) → IsLed net limit h → MayFollow net limit h (Start t cause (waiting_parts net t cause h)) → IsLed net limit (h ++ Start t cause (waiting_parts net t cause h) ∷ [])
led_start net limit t h cause led may = record {
  reached = reached_push net limit h _ led.reached may;
  meets_data = EachAfter-push (DataRule net) h _ led.meets_data (parts_allowed net h (edges_of net t cause) (released_held net h t cause may.release) led.waits);
  waits = waits_start net h t cause may.release led.waits;
}

pub led_end : (net : NetRows) (limit p : ℕ) (h : List Entry) (gives : List ℕ) (inner : Bool) → IsLed net limit h → MayFollow net limit h (End p gives inner) → IsLed net limit (h ++ End p gives inner ∷ [])
led_end net limit p h gives inner led may = record {
  reached = reached_push net limit h _ led.reached may;
  meets_data = EachAfter-push (DataRule net) h _ led.meets_data tt;
  waits = waits_end net h p gives inner led.waits;
}

pub led_fault : (net : NetRows) (limit p : ℕ) (h : List Entry) (why : Why) → IsLed net limit h → MayFollow net limit h (Fault p why) → IsLed net limit (h ++ Fault p why ∷ [])
led_fault net limit p h why led may = record {
  reached = reached_push net limit h _ led.reached may;
  meets_data = EachAfter-push (DataRule net) h _ led.meets_data tt;
  waits = waits_fault net h p why led.waits;
}

pub led_drop : (net : NetRows) (limit t : ℕ) (h : List Entry) (cause : Cause) (why : DropWhy) → IsLed net limit h → MayFollow net limit h (Drop t cause why) → IsLed net limit (h ++ Drop t cause why ∷ [])
led_drop net limit t h cause why led may = record {
  reached = reached_push net limit h _ led.reached may;
  meets_data = EachAfter-push (DataRule net) h _ led.meets_data tt;
  waits = waits_drop net h t cause why may.release led.waits;
}

-- one place more for entries to come
pub open_room : (h : List Entry) (flags : List Bool) → CountsOpen h flags → CountsOpen h (flags ++ false ∷ [])
open_room h flags counts = record { room = omega (arith, counts.room, length_push flags false); each = λ n d below. by_case n d (cases_lt n (length flags)) below }
  where
    by_case : (n : ℕ) (d : Bool) → (n < length flags) ⊎ (length flags ≤ n) → n < length (flags ++ false ∷ []) → get_or (flags ++ false ∷ []) n d ≡ is_open h n
    by_case n d (inl before) below = get_or_append_left flags (false ∷ []) d n before ∙ counts.each n d before
    by_case n d (inr after) below =
        let gone : slice_get h n ≡ None = slice_get_past h n (omega (arith, counts.room)) in
        get_or_push flags false d n (omega (arith, length_push flags false)) ∙ sym (ap (λ o. is_some_start o && (count_by (closes n) h == 0)) gone)
      where
        is_some_start : Option Entry → Bool
        is_some_start o = is_some (option_and_then started o)

-- the counts with other room
pub counted_room : (net : NetRows) (h : List Entry) (counts new : Counts) → IsCounted net h counts → CountsOpen h new.open_starts → new.releases ≡ counts.releases → new.units ≡ counts.units → new.starts ≡ counts.starts → new.faults ≡ counts.faults
    → new.is_stuck ≡ counts.is_stuck → new.is_limited ≡ counts.is_limited → IsCounted net h new
counted_room net h counts new c opened releases units starts faults stuck limited = record {
  releases = subst (λ r. CountsReleases net h r) (sym releases) c.releases;
  units = subst (λ u. CountsUnits net h u.counts.items) (sym units) c.units;
  opened = opened;
  starts = starts ∙ c.starts;
  faults = faults ∙ c.faults;
  stuck = stuck ∙ c.stuck;
  limited = limited ∙ c.limited;
}

-- an error that stands for a break is refused for it
pub refused_error : (m : MachineState) (x : Entry) (b : Break) (error : MachineError) → IsRefusal m.net m.limit m.journal x b → break_of error ≡ Some b → Refuses m x error
refused_error m x b error refusal is = subst (λ (o : Option Break). MatchOption o (MayFollow m.net m.limit m.journal x) (IsRefusal m.net m.limit m.journal x)) (sym is) refusal

-- the value of a machine at a journal
abbrev pub state : NetRows → ℕ → List Entry → MachineState
state net limit journal = record { net = net; limit = limit; journal = journal }

pub same_state : (net : NetRows) (limit : ℕ) (j k : List Entry) → j ≡ k → state net limit j ≡ state net limit k
same_state net limit j k same = ap (λ (i : List Entry). state net limit i) same

-- a machine's position
pub position_of : (net : NetRows) (limit : ℕ) (h : List Entry) (counts : Counts) (parts : List Part) (marks : ℕ) → IsMachineFor net limit h counts parts marks → length h < 2 ^ 61 → IsPosition net limit h counts
position_of net limit h counts parts marks kept size = record { reached = kept.led.reached; counted = kept.counted; grow = can_grow net h counts kept.counted size }

-- a machine that has taken an entry: the entry could follow, and the parts fit together again
pub record HasTaken (net : NetRows) (limit : ℕ) (h : List Entry) (x : Entry) (h' : List Entry) (counts : Counts) (parts : List Part) (marks : ℕ) : Type 0 where
  pub may : MayFollow net limit h x
  pub journal : h' ≡ h ++ x ∷ []
  pub kept : IsMachineFor net limit h' counts parts marks

taken : (net : NetRows) (limit : ℕ) (h : List Entry) (x : Entry) (h' : List Entry) (counts : Counts) (parts : List Part) (marks : ℕ) → MayFollow net limit h x → h' ≡ h ++ x ∷ [] → marks ≡ length net.edges
    → IsLed net limit (h ++ x ∷ []) → IsCounted net (h ++ x ∷ []) counts → TellsWaiting net (h ++ x ∷ []) parts → HasTaken net limit h x h' counts parts marks
taken net limit h x h' counts parts marks may is marks_are led counted waiting = record {
  may = may;
  journal = is;
  kept = subst (λ j. IsMachineFor net limit j counts parts marks) (sym is) (record { led = led; counted = counted; waiting = waiting; marks_are = marks_are });
}

pub has_started : (net : NetRows) (limit t place : ℕ) (h h' : List Entry) (cause : Cause) (ins parts parts' : List Part) (counts counts' counts'' : Counts) (marks : ℕ) → IsMachineFor net limit h counts parts marks → ((i : List Part) → MayFollow net limit h (Start t cause i))
    → ins ≡ waiting_parts net t cause h → h' ≡ h ++ Start t cause ins ∷ [] → place ≡ length h → IsCounted net h counts'
    → ((l : ℕ) (journal : List Entry) (i : List Part) → IsReached net l journal → place ≡ length journal → IsCounted net journal counts' → IsCounted net (journal ++ Start t cause i ∷ []) counts'')
    → ((journal : List Entry) (entry : Entry) → IsUseOf t cause entry → TellsWaiting net journal parts → TellsWaiting net (journal ++ entry ∷ []) parts')
    → HasTaken net limit h (Start t cause (waiting_parts net t cause h)) h' counts'' parts' marks
has_started net limit t place h h' cause ins parts parts' counts counts' counts'' marks kept may ins_is is here counted counts_it tells_it =
    let found = waiting_parts net t cause h in
    taken net limit h (Start t cause found) h' counts'' parts' marks (may found) (is ∙ ap (λ i. h ++ Start t cause i ∷ []) ins_is) kept.marks_are (led_start net limit t h cause kept.led (may found))
    (counts_it limit h found kept.led.reached here counted) (tells_it h (Start t cause found) (start_use t cause found) kept.waiting)

pub has_ended : (net : NetRows) (limit p t place : ℕ) (h h' : List Entry) (gives list : List ℕ) (inner : Bool) (parts parts' : List Part) (counts counts' counts'' : Counts) (marks : ℕ) → IsMachineFor net limit h counts parts marks → MayFollow net limit h (End p gives inner) → ClosesTask h p t
    → list ≡ gives → h' ≡ h ++ End p list inner ∷ [] → place ≡ length h → IsCounted net h counts' → length h < length counts'.open_starts
    → ((l : ℕ) (journal : List Entry) (i : Bool) → IsReached net l journal → place ≡ length journal → length journal < length counts'.open_starts → ClosesTask journal p t → IsCounted net journal counts' → IsCounted net (journal ++ End p gives i ∷ []) counts'')
    → ((n : NetRows) (journal : List Entry) (start : ℕ) (i : Bool) → TellsWaiting n journal parts → place ≡ length journal → TellsWaiting n (journal ++ End start gives i ∷ []) parts')
    → HasTaken net limit h (End p gives inner) h' counts'' parts' marks
has_ended net limit p t place h h' gives list inner parts parts' counts counts' counts'' marks kept may closed list_is is here counted room counts_it tells_it =
    taken net limit h (End p gives inner) h' counts'' parts' marks may (is ∙ ap (λ (g : List ℕ). h ++ End p g inner ∷ []) list_is) kept.marks_are (led_end net limit p h gives inner kept.led may)
    (counts_it limit h inner kept.led.reached here room closed counted) (tells_it net h p inner kept.waiting here)

pub has_faulted : (net : NetRows) (limit p t place : ℕ) (h h' : List Entry) (why : Why) (parts : List Part) (counts counts' counts'' : Counts) (marks : ℕ) → IsMachineFor net limit h counts parts marks → MayFollow net limit h (Fault p why) → ClosesTask h p t
    → h' ≡ h ++ Fault p why ∷ [] → place ≡ length h → IsCounted net h counts' → length h < length counts'.open_starts
    → ((l : ℕ) (journal : List Entry) (w : Why) → IsReached net l journal → place ≡ length journal → length journal < length counts'.open_starts → ClosesTask journal p t → IsCounted net journal counts' → IsCounted net (journal ++ Fault p w ∷ []) counts'')
    → HasTaken net limit h (Fault p why) h' counts'' parts marks
has_faulted net limit p t place h h' why parts counts counts' counts'' marks kept may closed is here counted room counts_it =
    taken net limit h (Fault p why) h' counts'' parts marks may is kept.marks_are (led_fault net limit p h why kept.led may) (counts_it limit h why kept.led.reached here room closed counted) (tells_fault net h p why parts kept.waiting)

pub has_dropped : (net : NetRows) (limit t : ℕ) (h h' : List Entry) (cause : Cause) (why : DropWhy) (parts parts' : List Part) (counts counts' counts'' : Counts) (marks : ℕ) → IsMachineFor net limit h counts parts marks → MayFollow net limit h (Drop t cause why)
    → h' ≡ h ++ Drop t cause why ∷ [] → IsCounted net h counts' → length h < length counts'.open_starts
    → ((l : ℕ) (journal : List Entry) → IsReached net l journal → length journal < length counts'.open_starts → IsCounted net journal counts' → IsCounted net (journal ++ Drop t cause why ∷ []) counts'')
    → ((journal : List Entry) (entry : Entry) → IsUseOf t cause entry → TellsWaiting net journal parts → TellsWaiting net (journal ++ entry ∷ []) parts')
    → HasTaken net limit h (Drop t cause why) h' counts'' parts' marks
has_dropped net limit t h h' cause why parts parts' counts counts' counts'' marks kept may is counted room counts_it tells_it =
    taken net limit h (Drop t cause why) h' counts'' parts' marks may is kept.marks_are (led_drop net limit t h cause why kept.led may) (counts_it limit h kept.led.reached room counted) (tells_it h (Drop t cause why) (drop_use t cause why) kept.waiting)

-- the Start that was made is open
pub opened_last : (net : NetRows) (limit t : ℕ) (h : List Entry) (cause : Cause) (ins : List Part) → IsReached net limit h → is_open (h ++ Start t cause ins ∷ []) (length h) ≡ true
opened_last net limit t h cause ins reached = is_open_push_last net limit h (Start t cause ins) reached refl

-- what memory can hold
pub small_journal : (h : List Entry) → (length h < 18446744073709551616) × (length h * 48 < 9223372036854775808) → length h < 2 ^ 61
small_journal h size = omega (arith, size.1)
