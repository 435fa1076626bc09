-- The first seat that has found its run closed, and the seats after it has left.
use Rattle.std.proofs.Common.{◌≡◌, ℕ, zero, suc, ◌<◌, Bool, true, List, [], ◌∷◌, Some, None, All, length, map, take, drop, ap, sym, ◌++◌, ◌∙◌, arith}
use Rattle.std.proofs.lemmas.Grind.{common_steps}
use Rattle.std.proofs.Math.Seq.{take-append_seam}
use Rattle.std.proofs.lemmas.List.{get_or_default}
use Rattle.std.proofs.lemmas.List.Quantifiers.{position-Some}
use Rattle.std.proofs.lemmas.List.Sums.{fails_before_first}
use Rattle.std.specs.Prelude.{slice_set, slice_index_or, position, ◌≤◌, Option, IfSome, IsSome, IsNone}
use Rattle.std.specs.List.{position_or_len}
use Rattle.run_frame.specs.declared.run.FrameRun.{FrameRun}
use Rattle.run_frame.specs.Meaning.{Meaning}
use Rattle.run_frame.specs.Legal.{IsKept}
use Rattle.run_frame.specs.NestedRule.{job_of}
use Rattle.worker_seat.specs.declared.seat.WorkerSeat.{WorkerSeat}
use Rattle.worker_seat.specs.Seats.{SeatState, IsClosedWith, away}
use Rattle.worker_seat.specs.Crews.{moved, state_of, IsFoundRunOf, IsOpen}

-- what can't tell an item from another sees the same list with either
map_set_same : {X Y : Type 0} (f : X → Y) (xs : List X) (i : ℕ) (y d : X) → i < length xs → f y ≡ f (slice_index_or xs i d) → map f (slice_set xs i y) ≡ map f xs
map_set_same f [] i y d lt e = absurd (omega arith)
map_set_same f (x ∷ xs) zero y d lt e = ap (λ v. v ∷ map f xs) e
map_set_same f (x ∷ xs) (suc i) y d lt e = ap (λ vs. f x ∷ vs) (map_set_same f xs i y d (omega arith) e)

module _ {J V X : Type 0} where
  abbrev pub has_closed : WorkerSeat J X V → Bool
  has_closed seat = (state_of seat).closed

  pub first_below : (xs : List (WorkerSeat J X V)) (i : ℕ) (d : WorkerSeat J X V) → Some i ≡ position has_closed xs → i < length xs
  first_below xs i d e = (position-Some has_closed xs i d (sym e)).0

  pub first_is_closed : (xs : List (WorkerSeat J X V)) (i : ℕ) (d : WorkerSeat J X V) → Some i ≡ position has_closed xs → has_closed (slice_index_or xs i d) ≡ true
  first_is_closed xs i d e = (position-Some has_closed xs i d (sym e)).1

  pub none_closed : (xs : List (WorkerSeat J X V)) → None ≡ position has_closed xs → All IsOpen xs
  none_closed xs e =
      let out : length xs ≤ position_or_len has_closed xs = grind (arith, common_steps) in
      λ k d lt. fails_before_first has_closed xs k d (omega arith)

  pub left_all : (xs new : List (WorkerSeat J X V)) (i : ℕ) (d : WorkerSeat J X V) (station : SeatState J) → i < length xs → station ≡ away (slice_index_or xs i d).station
      → new ≡ map (moved away) (slice_set xs i record { watcher = (slice_index_or xs i d).watcher; station = station }) → new ≡ map (moved away) xs
  left_all xs new i d station lt went e =
      e ∙ map_set_same (moved away) xs i record { watcher = (slice_index_or xs i d).watcher; station = station } d lt
      (ap (λ (p : SeatState J). moved away record { watcher = (slice_index_or xs i d).watcher; station = p }) went)

  pub run_found : (meaning : Meaning J V) (xs : List (WorkerSeat J X V)) (i : ℕ) (d : WorkerSeat J X V) (run : FrameRun J V) → i < length xs
      → IsKept meaning run × IsClosedWith (job_of run) (slice_index_or xs i d).station → IsFoundRunOf meaning xs run
  run_found meaning xs i d run lt got = record {
    kept = got.0;
    found = (i, slice_index_or xs i d, lt, get_or_default xs i (slice_index_or xs i d) d lt, got.1);
  }

pub some_not_none : {X : Type 0} (o : Option X) → IsSome o → IsNone o → ⊥
some_not_none None some none = cc
some_not_none (Some x) some none = cc

-- a list that is written back as it was
pub written_back : {X : Type 0} (items lent new : List X) (len : ℕ) → new ≡ lent → lent ≡ items → length lent ≡ len → take len (new ++ drop (length new) items) ≡ items
written_back items lent new len same value long =
    let one : new ≡ items = same ∙ value in
    let all : len ≡ length items = sym long ∙ ap length value in
    rw (one, all) (take-append_seam items (drop (length items) items))
