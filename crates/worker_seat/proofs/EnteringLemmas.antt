-- A seat that enters its run, or that a run is fetched from.
use Rattle.std.proofs.Common.{◌≡◌, ◌+◌, ◌≤◌, ℕ, List, Bool, true, false, Some, None, refl, sym, ap, subst, ◌∙◌, arith}
use Rattle.std.specs.Prelude.{◌-◌, ◌^◌, min, Option, IfSome}
use Rattle.std.specs.Option.{option_map}
use Rattle.std.specs.Arc.{arc_value}
use Rattle.std.proofs.Math.Nat.{min-eq_left}
use Rattle.run_frame.specs.Meaning.{Meaning}
use Rattle.run_frame.specs.NestedRule.{job_of}
use Rattle.span_book.specs.SpanBooks.{TellerState}
use Rattle.span_profile.specs.Watch.{TellsOn}
use Rattle.ready_deques.specs.Lists.{OwnerState}
use Rattle.worker_seat.specs.Crews.{HasWorked, IsToldMore}
use Rattle.worker_seat.specs.Seats.{ListName, SeatState, found_closed}
use Rattle.worker_seat.specs.inside.Attendances.{IsFetched, IsFetchedFrom, TellsMore}
use Rattle.worker_seat.specs.inside.Runs.{RunView}
use Rattle.worker_seat.specs.inside.SeatPlaces.{HasEntered, HasTold, IsAtRunOn, IsRunOn, IsSameOwner, book_at, found_teller, has_found, job_at, owner_list, run_at}
use Rattle.worker_seat.specs.declared.attendance.Attendance.{Attendance}
use Rattle.worker_seat.specs.declared.attendance.Attendance.TheVariants.{Away, At, Found, Lost}
use Rattle.worker_seat.specs.declared.attendance.FetchedRun.{FetchedRun}
use Rattle.worker_seat.proofs.SeatingLemmas.{named}

abbrev at_run : {J : Type 0} → ListName → Option (RunView J) → Bool → Bool → ℕ → SeatState J
at_run {J} list run closed refused told = record {
  list = list;
  job = option_map (λ (r : RunView J). r.job) run;
  book = option_map (λ (r : RunView J). r.book) run;
  closed = closed;
  refused = refused;
  told = told;
}

abbrev teller_or : ℕ → Option TellerState → ℕ
teller_or n None = n
teller_or n (Some t) = t.told

module _ {J V X : Type 0} (told_to : X → ℕ) where
  -- what the teller of a seat told that was entered is what the watcher was told more
  pub entered_told : (a : Attendance J V) (teller : TellerState) (told : ℕ) (old new : X) → told_to old ≤ 2 ^ 64 - 1 → (teller.told ≡ 0) × (told ≡ 0)
      → IfSome (found_teller a) (λ t. TellsOn told_to teller.told t.told old new) → has_found a ≡ true → TellsMore told_to told old a new
  entered_told Away teller told old new fits none tells found = absurd (cc)
  entered_told (At run t) teller told old new fits none tells found = absurd (cc)
  entered_told (Lost run) teller told old new fits none tells found = absurd (cc)
  entered_told (Found run ticket t) teller told old new fits none tells found =
      let all : told_to old + teller.told ≡ told_to old = omega (arith, none.0) in
      record {
        count = t.told;
        teller = omega (arith, none.1);
        watcher = tells (told_to old) (sym (ap (λ (n : ℕ). min n (2 ^ 64 - 1)) all ∙ min-eq_left fits));
      }

module _ {J V : Type 0} where
  -- a seat that was entered and has found no run closed has no teller
  pub none_told : (a : Attendance J V) (told : ℕ) → HasEntered a → found_teller a ≡ None → HasTold told a
  none_told Away told entered none = tt
  none_told (At run t) told entered none = absurd entered
  none_told (Lost run) told entered none = tt
  none_told (Found run ticket t) told entered none = absurd (cc)

  -- the seat after that
  pub seat_found : (list now : ListName) (a after : Attendance J V) (refused : Bool) (told n : ℕ) (teller : TellerState) → now ≡ list → run_at after ≡ run_at a → found_teller after ≡ Some teller
      → HasTold (told + n) after → at_run now (run_at after) (has_found after) refused teller.told ≡ found_closed n (at_run list (run_at a) (has_found a) refused told)
  seat_found list now a Away refused told n teller same run is all = absurd (cc)
  seat_found list now a (At r t) refused told n teller same run is all = absurd (cc)
  seat_found list now a (Lost r) refused told n teller same run is all = absurd (cc)
  seat_found list now a (Found r ticket t) refused told n teller same run is all =
      let count : teller.told ≡ told + n = sym (ap (teller_or 0) is) ∙ all in
      ap (λ (l : ListName). at_run l (Some (arc_value r)) true refused teller.told) same
      ∙ ap (λ (o : Option (RunView J)). at_run list o true refused teller.told) run
      ∙ ap (λ (m : ℕ). at_run list (run_at a) true refused m) count

  pub found_true : (a : Attendance J V) (teller : TellerState) → Some teller ≡ found_teller a → has_found a ≡ true
  found_true Away teller is = absurd (cc)
  found_true (At run t) teller is = absurd (cc)
  found_true (Lost run) teller is = absurd (cc)
  found_true (Found run ticket t) teller is = refl

  pub has_worked : {X : Type 0} (told_to : X → ℕ) (list now : ListName) (a after : Attendance J V) (refused : Bool) (told : ℕ) (kept teller : TellerState) (seat : SeatState J) (old new : X)
      → at_run list (run_at a) (has_found a) refused told ≡ seat → now ≡ list → run_at after ≡ run_at a → Some teller ≡ found_teller after → kept ≡ teller → TellsMore told_to told old after new
      → HasWorked told_to seat old (at_run now (run_at after) (has_found after) refused kept.told) new
  has_worked told_to list now a after refused told kept teller seat old new was same run is keeps tells = record {
    count = tells.count;
    state = ap (λ (t : TellerState). at_run now (run_at after) (has_found after) refused t.told) keeps
        ∙ seat_found list now a after refused told tells.count teller same run (sym is) tells.teller
        ∙ ap (found_closed tells.count) was;
    watcher_told = tells.watcher;
  }

  -- the run that it is at stays on its list
  pub stays_on : (list now : ListName) (a after : Attendance J V) → now ≡ list → run_at after ≡ run_at a → IsAtRunOn list a → IsAtRunOn now after
  stays_on list now a after same run on =
      subst (λ (l : ListName). IfSome (run_at after) (IsRunOn l)) (sym same) (subst (λ (o : Option (RunView J)). IfSome o (IsRunOn list)) (sym run) on)

  -- what is fetched from a seat
  pub fetched_from : (meaning : Meaning J V) (list : ListName) (a : Attendance J V) (refused : Bool) (told : ℕ) (o : Option (FetchedRun J V)) → HasTold told a → IfSome o (IsFetched meaning a)
      → IfSome o (IsFetchedFrom meaning (at_run list (run_at a) (has_found a) refused told))
  fetched_from meaning list a refused told None has is = tt
  fetched_from meaning list a refused told (Some fetched) has is = record {
    found = (is.found, ap (option_map (λ (r : RunView J). r.job)) is.run ∙ ap Some (sym is.job));
    book = ap (option_map (λ (r : RunView J). r.book)) is.run;
    kept = is.kept;
    account = is.account told has;
  }

-- an owner of the same list has its name
pub owner_same : (old new : OwnerState) → IsSameOwner old new → owner_list new ≡ owner_list old
owner_same old new same = ap (λ (begun : List ℕ). named begun new.counts) same.0 ∙ ap (named old.tag) same.1
