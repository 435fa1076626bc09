-- Seats that are made one after the other, each of the last owner that is left and of the first watcher.
use Rattle.std.proofs.Common.{◌≡◌, ℕ, ◌<◌, List, [], ◌∷◌, ◌++◌, All, length, map, refl, ap, sym, subst, ◌∙◌, arith}
use Rattle.std.proofs.lemmas.Grind.{common_steps}
use Rattle.std.proofs.lemmas.List.Elements.{All-push}
use Rattle.std.specs.Prelude.{slice_index_or, IfSome, Option, Some, None}
use Rattle.std.specs.List.{remove}
use Rattle.atomic_table.specs.Seated.{TableId}
use Rattle.ready_deques.specs.Lists.{OwnerState, IsOwnerOf, tag_of}
use Rattle.ready_deques.specs.declared.ready.Ready.{Ready}
use Rattle.run_frame.specs.Meaning.{Meaning}
use Rattle.table_frames.specs.Steps.{BeginsFrame, IsRootRun}
use Rattle.table_frames.specs.declared.closed_run.ClosedRun.{ClosedRun}
use Rattle.table_frames.specs.declared.step_results.Stepped.{Stepped}
use Rattle.table_runs.specs.RunKeys.{FrameKey}
use Rattle.worker_seat.specs.declared.crew.Crew.{Crew}
use Rattle.worker_seat.specs.declared.seat.WorkerSeat.{WorkerSeat}
use Rattle.worker_seat.specs.Seats.{ListName, RunBook, SeatState, new_seat, run_book}
use Rattle.worker_seat.specs.Crews.{AreAtOneRun, IsSeatOf, MayBegin, crew_of, state_of}
use Rattle.worker_seat.specs.inside.Runs.{AreOfRun, IsClosedOf, RunView}
use Rattle.worker_seat.specs.inside.SeatPlaces.{IsRunOn, list_name, owner_list}

module _ {X : Type 0} (P : X → Type 0) where
  pub last_is : (xs ys : List X) (y : X) → All P xs → xs ≡ ys ++ y ∷ [] → P y
  last_is xs ys y all e =
      let at : slice_index_or (ys ++ y ∷ []) (length ys) y ≡ y = grind (arith, common_steps) in
      let below : length ys < length (ys ++ y ∷ []) = grind (arith, common_steps) in
      subst P at (subst (λ (zs : List X). All P zs) e all (length ys) y below)

  pub front_is : (xs ys : List X) (y : X) → All P xs → xs ≡ ys ++ y ∷ [] → All P ys
  front_is xs ys y all e k d lt =
      let at : slice_index_or (ys ++ y ∷ []) k d ≡ slice_index_or ys k d = grind (arith, common_steps) in
      let below : k < length (ys ++ y ∷ []) = grind (arith, common_steps) in
      subst P at (subst (λ (zs : List X). All P zs) e all k d below)

module _ {X Y : Type 0} (f : X → Y) where
  one_moves : (xs : List X) (x : X) (rest : List Y) → map f (xs ++ x ∷ []) ++ rest ≡ map f xs ++ (f x ∷ rest)
  one_moves [] x rest = refl
  one_moves (y ∷ ys) x rest = ap (λ zs. f y ∷ zs) (one_moves ys x rest)

  none_left : (ys : List Y) → ys ++ [] ≡ ys
  none_left [] = refl
  none_left (y ∷ ys) = ap (λ zs. y ∷ zs) (none_left ys)

  -- what the seats have of the watchers, and those that are left, are all of them
  pub watchers_next : (seats new : List X) (seat : X) (left rest all : List Y) (watcher : Y) → map f seats ++ left ≡ all → new ≡ seats ++ seat ∷ []
      → f seat ≡ watcher → 0 < length left → watcher ≡ slice_index_or left 0 watcher → rest ≡ remove left 0 → map f new ++ rest ≡ all
  watchers_next seats new seat [] rest all watcher were now is some first removed = absurd (omega arith)
  watchers_next seats new seat (w ∷ ws) rest all watcher were now is some first removed =
      rw (now, removed) (one_moves seats seat ws ∙ ap (λ v. map f seats ++ (v ∷ ws)) (is ∙ first) ∙ were)

  pub watchers_end : (seats : List X) (left all : List Y) → map f seats ++ left ≡ all → length left ≡ 0 → map f seats ≡ all
  watchers_end seats [] all were none = sym (none_left (map f seats)) ∙ were
  watchers_end seats (w ∷ ws) all were none = absurd (omega arith)

abbrev pub named : List ℕ → TableId → ListName
named begun counts = record { begun = begun; counts = counts }

-- an owner of a list is of the list of its name
pub same_list : {T : Type 0} (ready : Ready T) (owner : OwnerState) → IsOwnerOf ready owner → owner_list owner ≡ list_name ready
same_list ready owner is = ap (λ (begun : List ℕ). named begun owner.counts) is.0 ∙ ap (named (tag_of ready)) is.1

module _ {J V X : Type 0} where
  -- a new seat is of the list of its owner
  pub list_more : (name : ListName) (owner : OwnerState) (seats new : List (WorkerSeat J X V)) (seat : WorkerSeat J X V) → All (λ (s : WorkerSeat J X V). (state_of s).list ≡ name) seats
      → new ≡ seats ++ seat ∷ [] → state_of seat ≡ new_seat (owner_list owner) → owner_list owner ≡ name → All (λ (s : WorkerSeat J X V). (state_of s).list ≡ name) new
  list_more name owner seats new seat all now state is =
      let P : WorkerSeat J X V → Type 0 = λ s. (state_of s).list ≡ name in
      let one : P seat = ap (λ (s : SeatState J). s.list) state ∙ is in
      subst (λ (zs : List (WorkerSeat J X V)). All P zs) (sym now) (All-push P seats seat all one)

  -- and may go to a run
  pub ready_more : (owner : OwnerState) (seats new : List (WorkerSeat J X V)) (seat : WorkerSeat J X V) → All MayBegin seats
      → new ≡ seats ++ seat ∷ [] → state_of seat ≡ new_seat (owner_list owner) → All MayBegin new
  ready_more owner seats new seat all now state =
      let one : MayBegin seat = record { free = ap (λ (s : SeatState J). s.job) state; served = ap (λ (s : SeatState J). s.refused) state } in
      subst (λ (zs : List (WorkerSeat J X V)). All MayBegin zs) (sym now) (All-push MayBegin seats seat all one)

  -- and is at no run
  pub none_more : (owner : OwnerState) (seats new : List (WorkerSeat J X V)) (seat : WorkerSeat J X V) → All (λ (s : WorkerSeat J X V). (state_of s).book ≡ None) seats
      → new ≡ seats ++ seat ∷ [] → state_of seat ≡ new_seat (owner_list owner) → All (λ (s : WorkerSeat J X V). (state_of s).book ≡ None) new
  none_more owner seats new seat all now state =
      let P : WorkerSeat J X V → Type 0 = λ s. (state_of s).book ≡ None in
      let one : P seat = ap (λ (s : SeatState J). s.book) state in
      subst (λ (zs : List (WorkerSeat J X V)). All P zs) (sym now) (All-push P seats seat all one)

  -- seats at no run are at one run at most
  pub at_none : (count : ℕ) (book : TableId) (seats : List (WorkerSeat J X V)) → All (λ (s : WorkerSeat J X V). (state_of s).book ≡ None) seats → AreAtOneRun count seats
  at_none count book seats all = record {
    book = run_book book count;
    count = refl;
    each = λ k d lt. subst (λ (o : Option RunBook). IfSome o (λ own. own ≡ run_book book count)) (sym (all k d lt)) tt;
  }

  -- a run of the crew's list is one of the list of each of its seats
  pub all_on : (crew : Crew J V) (run : RunView J) (seats lent : List (WorkerSeat J X V)) → All (IsSeatOf crew) seats → IsRunOn (crew_of crew).list run
      → lent ≡ seats → All (λ (s : WorkerSeat J X V). IsRunOn (state_of s).list run) lent
  all_on crew run seats lent all on same =
      let P : WorkerSeat J X V → Type 0 = λ s. IsRunOn (state_of s).list run in
      let each : All P seats = λ k d lt. subst (λ (l : ListName). IsRunOn l run) (sym (all k d lt)) on in
      subst (λ (zs : List (WorkerSeat J X V)). All P zs) (sym same) each

abbrev some_or : {Y : Type 0} → Y → Option Y → Y
some_or y None = y
some_or y (Some z) = z

-- a run that was closed as it began, with its book
pub closed_of : {J V : Type 0} (meaning : Meaning J V) (job began : J) (book named : TableId) (frame : FrameKey J) (closed : ClosedRun J V) → frame.job ≡ began → began ≡ job → frame.book ≡ Some named → named ≡ book
    → IsRootRun meaning (frame ∷ []) closed → IsClosedOf meaning job book closed
closed_of meaning job began book named frame closed of_job same in_book same_book is = record {
  kept = is.kept;
  of_job = ap (some_or job) (sym is.job) ∙ of_job ∙ same;
  in_book = ap (some_or book) (sym is.book ∙ in_book) ∙ same_book;
  account = is.account;
}

-- the first releases of one that goes on
pub run_of : {J V : Type 0} (meaning : Meaning J V) (job began : J) (book named : TableId) (stepped : Stepped J V) → began ≡ job → named ≡ book → BeginsFrame meaning began named stepped
    → AreOfRun job book stepped.released.items
run_of meaning job began book named stepped same same_book begins = record {
  frames = begins.frame ∷ [];
  root = ap Some (begins.job_is ∙ same);
  in_book = begins.book_is ∙ ap Some same_book;
  each = begins.frames;
}
