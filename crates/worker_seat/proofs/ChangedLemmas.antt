-- Lists of which the first items are changed, and seats that are moved one after the other.
use Rattle.std.proofs.Common.{◌≡◌, ℕ, zero, suc, ◌+◌, ◌<◌, ◌≤◌, List, [], ◌∷◌, All, length, map, refl, ap, sym, subst, ◌∙◌, arith, add-one}
use Rattle.std.proofs.lemmas.List.{set-get_or}
use Rattle.std.specs.Prelude.{slice_set, slice_index_or, Result, Ok, Err, OnErr}
use Rattle.worker_seat.specs.declared.seat.WorkerSeat.{WorkerSeat}
use Rattle.worker_seat.specs.Seats.{RunBook, SeatState, at_job, left_refused}
use Rattle.worker_seat.specs.Crews.{moved}
use Rattle.worker_seat.specs.inside.SeatPlaces.{changed}

-- what holds holds after an error
pub after_error : {A E : Type 0} (r : Result A E) (P : Type 0) → P → OnErr r P
after_error (Ok a) P p = tt
after_error (Err e) P p = p

-- where all are
pub changed_all : {X : Type 0} (f : X → X) (n : ℕ) (xs : List X) → length xs ≤ n → changed f n xs ≡ map f xs
changed_all f zero [] le = refl
changed_all f zero (x ∷ xs) le = absurd (omega arith)
changed_all f (suc n) [] le = refl
changed_all f (suc n) (x ∷ xs) le = ap (λ ys. f x ∷ ys) (changed_all f n xs (omega arith))

-- what can't tell the changed from the old sees the same list
pub changed_unseen : {X Y : Type 0} (f : X → X) (g : X → Y) → ((x : X) → g (f x) ≡ g x) → (n : ℕ) (xs : List X) → map g (changed f n xs) ≡ map g xs
changed_unseen f g same zero xs = refl
changed_unseen f g same (suc n) [] = refl
changed_unseen f g same (suc n) (x ∷ xs) = ap (λ y. y ∷ map g (changed f n xs)) (same x) ∙ ap (λ ys. g x ∷ ys) (changed_unseen f g same n xs)

-- the next one is changed
changed_set : {X : Type 0} (f : X → X) (n : ℕ) (xs : List X) (y : X) → n < length xs → y ≡ slice_index_or (changed f n xs) n y
    → slice_set (changed f n xs) n (f y) ≡ changed f (suc n) xs
changed_set f zero [] y lt is = absurd (omega arith)
changed_set f zero (x ∷ xs) y lt is = ap (λ v. f v ∷ xs) is
changed_set f (suc n) [] y lt is = absurd (omega arith)
changed_set f (suc n) (x ∷ xs) y lt is = ap (λ ys. f x ∷ ys) (changed_set f n xs y (omega arith) is)

-- which was as it had been
pub changed_next : {X : Type 0} (f : X → X) (n : ℕ) (xs : List X) (d : X) → slice_index_or (changed f n xs) n d ≡ slice_index_or xs n d
changed_next f zero xs d = refl
changed_next f (suc n) [] d = refl
changed_next f (suc n) (x ∷ xs) d = changed_next f n xs d

-- so that it has what each had
pub next_has : {X : Type 0} (P : X → Type 0) (f : X → X) (n : ℕ) (xs ys : List X) (d : X) → All P xs → ys ≡ changed f n xs → n < length xs → P (slice_index_or ys n d)
next_has P f n xs ys d all e lt =
    subst P (sym (ap (λ zs. slice_index_or zs n d) e ∙ changed_next f n xs d)) (all n d lt)

module _ {J V X : Type 0} where
  pub moved_next : (to : SeatState J → SeatState J) (n : ℕ) (xs ys : List (WorkerSeat J X V)) (seat : WorkerSeat J X V) (station : SeatState J)
      → ys ≡ changed (moved to) n xs → n < length xs → seat ≡ slice_index_or ys n seat → station ≡ to (slice_index_or ys n seat).station
      → slice_set ys n record { watcher = (slice_index_or ys n seat).watcher; station = station } ≡ changed (moved to) (n + 1) xs
  moved_next to n xs ys seat station e lt is went =
      subst (λ (p : SeatState J). slice_set ys n record { watcher = (slice_index_or ys n seat).watcher; station = p } ≡ changed (moved to) (n + 1) xs) (sym went)
      (subst (λ (s : WorkerSeat J X V). slice_set ys n (moved to s) ≡ changed (moved to) (n + 1) xs) is
      (rw add-one
      (subst (λ (zs : List (WorkerSeat J X V)). seat ≡ slice_index_or zs n seat → slice_set zs n (moved to seat) ≡ changed (moved to) (suc n) xs) (sym e)
      (changed_set (moved to) n xs seat lt) is)))

  pub moved_all : (to : SeatState J → SeatState J) (n : ℕ) (xs ys : List (WorkerSeat J X V)) → ys ≡ changed (moved to) n xs → length xs ≤ n → ys ≡ map (moved to) xs
  moved_all to n xs ys e le = e ∙ changed_all (moved to) n xs le

  -- seats that were sent to a run leave it as those that were not
  pub sent_refused : (job : J) (book : RunBook) (n : ℕ) (xs ys : List (WorkerSeat J X V)) (seat : WorkerSeat J X V) → ys ≡ changed (moved (at_job job book)) n xs
      → map (moved left_refused) (slice_set ys n (slice_index_or ys n seat)) ≡ map (moved left_refused) xs
  sent_refused job book n xs ys seat e =
      ap (map (moved left_refused)) (set-get_or ys n seat ∙ e) ∙ changed_unseen (moved (at_job job book)) (moved left_refused) (λ x. refl) n xs
