-- The tally of a run as seats leave it, one after the other.
use Rattle.std.proofs.Common.{◌≡◌, ℕ, zero, suc, ◌+◌, ◌<◌, ◌≤◌, Bool, true, false, List, [], ◌∷◌, All, length, map, refl, ap, sym, subst, ◌∙◌, Some, None, arith, add-one}
use Rattle.std.proofs.lemmas.List.Sums.{sum_by-cons, sum_by-set}
use Rattle.std.specs.Prelude.{if◌then◌else◌, sum_by, slice_set, slice_index_or, Option, IfSome}
use Rattle.span_book.specs.SpanBooks.{TallyState, tally_state}
use Rattle.worker_seat.specs.declared.seat.WorkerSeat.{WorkerSeat}
use Rattle.worker_seat.specs.Seats.{RunBook, SeatState, away}
use Rattle.worker_seat.specs.Crews.{HasFound, MayHaveBook, moved, state_of, told_in_run}
use Rattle.worker_seat.specs.inside.Attendances.{collected, teller_count, teller_told}
use Rattle.worker_seat.specs.inside.SeatPlaces.{changed}
use Rattle.worker_seat.proofs.ChangedLemmas.{changed_next}

-- what holds of all items holds of them where one was set to what has it
All-set : {Y : Type 0} (P : Y → Type 0) (xs : List Y) (i : ℕ) (y : Y) → All P xs → P y → All P (slice_set xs i y)
All-set P [] i y all is k d lt = absurd (omega arith)
All-set P (x ∷ xs) zero y all is zero d lt = is
All-set P (x ∷ xs) zero y all is (suc k) d lt = all (suc k) d lt
All-set P (x ∷ xs) (suc i) y all is zero d lt = all 0 d (omega arith)
All-set P (x ∷ xs) (suc i) y all is (suc k) d lt = All-set P xs i y (λ j e below. all (suc j) e (omega (arith, below))) is k d (omega (arith, lt))

-- what a tally has of one seat more
tellers_more : (b : Bool) (told : ℕ) (t : TallyState) → (collected b told t).tellers ≡ t.tellers + (if b then 1 else 0)
tellers_more false told t = omega arith
tellers_more true told t = refl

told_more : (b : Bool) (told : ℕ) (t : TallyState) → (collected b told t).told ≡ t.told + (if b then told else 0)
told_more false told t = omega arith
told_more true told t = refl

noted_same : (b : Bool) (told : ℕ) (t : TallyState) → (collected b told t).noted ≡ t.noted
noted_same false told t = refl
noted_same true told t = refl

book_same : (b : Bool) (told : ℕ) (t : TallyState) → (collected b told t).book ≡ t.book
book_same false told t = refl
book_same true told t = refl

module _ {J V X : Type 0} where
  -- the tally after the first n seats have left
  abbrev pub collected_from : ℕ → List (WorkerSeat J X V) → TallyState → TallyState
  collected_from zero xs t = t
  collected_from (suc n) [] t = t
  collected_from (suc n) (x ∷ xs) t = collected_from n xs (collected (state_of x).closed (told_in_run x) t)

  -- and after the next
  pub collected_next : (n : ℕ) (xs : List (WorkerSeat J X V)) (d : WorkerSeat J X V) (t : TallyState) → n < length xs
      → collected (state_of (slice_index_or xs n d)).closed (told_in_run (slice_index_or xs n d)) (collected_from n xs t) ≡ collected_from (suc n) xs t
  collected_next zero [] d t lt = absurd (omega arith)
  collected_next zero (x ∷ xs) d t lt = refl
  collected_next (suc n) [] d t lt = absurd (omega arith)
  collected_next (suc n) (x ∷ xs) d t lt = collected_next n xs d (collected (state_of x).closed (told_in_run x) t) (omega arith)

  pub book_from : (n : ℕ) (xs : List (WorkerSeat J X V)) (t : TallyState) → (collected_from n xs t).book ≡ t.book
  book_from zero xs t = refl
  book_from (suc n) [] t = refl
  book_from (suc n) (x ∷ xs) t = book_from n xs _ ∙ book_same (state_of x).closed (told_in_run x) t

  -- after all have left it has the tellers of those that had found the run closed
  pub noted_from : (n : ℕ) (xs : List (WorkerSeat J X V)) (t : TallyState) → (collected_from n xs t).noted ≡ t.noted
  noted_from zero xs t = refl
  noted_from (suc n) [] t = refl
  noted_from (suc n) (x ∷ xs) t = noted_from n xs _ ∙ noted_same (state_of x).closed (told_in_run x) t

  pub tellers_from : (n : ℕ) (xs : List (WorkerSeat J X V)) (t : TallyState) → length xs ≤ n → (collected_from n xs t).tellers ≡ t.tellers + sum_by teller_count xs
  tellers_from zero [] t le = omega arith
  tellers_from zero (x ∷ xs) t le = absurd (omega arith)
  tellers_from (suc n) [] t le = omega arith
  tellers_from (suc n) (x ∷ xs) t le =
      let more : sum_by teller_count (x ∷ xs) ≡ teller_count x + sum_by teller_count xs = sum_by-cons teller_count x xs in
      let rest : (collected_from (suc n) (x ∷ xs) t).tellers ≡ (collected (state_of x).closed (told_in_run x) t).tellers + sum_by teller_count xs =
      tellers_from n xs (collected (state_of x).closed (told_in_run x) t) (omega arith) in
      let one : (collected (state_of x).closed (told_in_run x) t).tellers ≡ t.tellers + teller_count x = tellers_more (state_of x).closed (told_in_run x) t in
      omega (arith, rest, one, more)

  pub told_from : (n : ℕ) (xs : List (WorkerSeat J X V)) (t : TallyState) → length xs ≤ n → (collected_from n xs t).told ≡ t.told + sum_by teller_told xs
  told_from zero [] t le = omega arith
  told_from zero (x ∷ xs) t le = absurd (omega arith)
  told_from (suc n) [] t le = omega arith
  told_from (suc n) (x ∷ xs) t le =
      let more : sum_by teller_told (x ∷ xs) ≡ teller_told x + sum_by teller_told xs = sum_by-cons teller_told x xs in
      let rest : (collected_from (suc n) (x ∷ xs) t).told ≡ (collected (state_of x).closed (told_in_run x) t).told + sum_by teller_told xs =
      told_from n xs (collected (state_of x).closed (told_in_run x) t) (omega arith) in
      let one : (collected (state_of x).closed (told_in_run x) t).told ≡ t.told + teller_told x = told_more (state_of x).closed (told_in_run x) t in
      omega (arith, rest, one, more)

  -- where all seats have found the run closed, these are all, and the spans of all
  pub all_counted : (xs : List (WorkerSeat J X V)) → All HasFound xs → sum_by teller_count xs ≡ length xs
  all_counted [] all = refl
  all_counted (x ∷ xs) all =
      let one : teller_count x ≡ 1 = ap (λ (b : Bool). if b then 1 else 0) (all 0 x (omega arith)) in
      let more : sum_by teller_count (x ∷ xs) ≡ teller_count x + sum_by teller_count xs = sum_by-cons teller_count x xs in
      let rest = all_counted xs (λ k d lt. all (suc k) d (omega (arith, lt))) in
      omega (arith, one, rest, more)

  pub all_told : (xs : List (WorkerSeat J X V)) → All HasFound xs → sum_by teller_told xs ≡ sum_by told_in_run xs
  all_told [] all = refl
  all_told (x ∷ xs) all =
      let one : teller_told x ≡ told_in_run x = ap (λ (b : Bool). if b then told_in_run x else 0) (all 0 x (omega arith)) in
      let more : sum_by teller_told (x ∷ xs) ≡ teller_told x + sum_by teller_told xs = sum_by-cons teller_told x xs in
      let all_more : sum_by told_in_run (x ∷ xs) ≡ told_in_run x + sum_by told_in_run xs = sum_by-cons told_in_run x xs in
      let rest = all_told xs (λ k d lt. all (suc k) d (omega (arith, lt))) in
      omega (arith, one, rest, more, all_more)

  -- the tally after one seat more has left
  pub left_next : (n : ℕ) (xs ys : List (WorkerSeat J X V)) (seat : WorkerSeat J X V) (t spans new : TallyState) → ys ≡ changed (moved away) n xs → n < length xs → spans ≡ collected_from n xs t
      → new ≡ collected (state_of (slice_index_or ys n seat)).closed (told_in_run (slice_index_or ys n seat)) spans → new ≡ collected_from (n + 1) xs t
  left_next n xs ys seat t spans new e lt were is =
      let same : slice_index_or ys n seat ≡ slice_index_or xs n seat = ap (λ (zs : List (WorkerSeat J X V)). slice_index_or zs n seat) e ∙ changed_next (moved away) n xs seat in
      rw add-one
      (is ∙ ap (λ (s : WorkerSeat J X V). collected (state_of s).closed (told_in_run s) spans) same
      ∙ ap (collected (state_of (slice_index_or xs n seat)).closed (told_in_run (slice_index_or xs n seat))) were
      ∙ collected_next n xs seat t lt)

  -- With all tellers they told what the run's keeper noted.
  pub settled_all : (n : ℕ) (xs : List (WorkerSeat J X V)) (t spans : TallyState) (count book_count : ℕ) → spans ≡ collected_from n xs t → length xs ≤ n → book_count ≡ count
      → (spans.tellers ≡ book_count → spans.told ≡ spans.noted) → t.tellers + sum_by teller_count xs ≡ count → t.told + sum_by teller_told xs ≡ t.noted
  settled_all n xs t spans count book_count were le same even all =
      let tellers : spans.tellers ≡ t.tellers + sum_by teller_count xs = ap (λ (v : TallyState). v.tellers) were ∙ tellers_from n xs t le in
      let told : spans.told ≡ t.told + sum_by teller_told xs = ap (λ (v : TallyState). v.told) were ∙ told_from n xs t le in
      let noted : spans.noted ≡ t.noted = ap (λ (v : TallyState). v.noted) were ∙ noted_from n xs t in
      sym told ∙ even (tellers ∙ all ∙ sym same) ∙ noted

  -- seats that may be at a run of this book, where one of them has left it
  pub one_left : (book : RunBook) (xs : List (WorkerSeat J X V)) (i : ℕ) (d : WorkerSeat J X V) (station : SeatState J) → All (MayHaveBook book) xs → station ≡ away (state_of (slice_index_or xs i d))
      → All (MayHaveBook book) (slice_set xs i record { watcher = (slice_index_or xs i d).watcher; station = station })
  one_left book xs i d station all went = All-set (MayHaveBook book) xs i _ all (subst (λ (s : SeatState J). IfSome s.book (λ own. own ≡ book)) (sym went) tt)

  -- the book of a seat at a run is that of all
  pub same_book : (book own : RunBook) (xs : List (WorkerSeat J X V)) (i : ℕ) (d : WorkerSeat J X V) → All (MayHaveBook book) xs → i < length xs → (state_of (slice_index_or xs i d)).book ≡ Some own → own ≡ book
  same_book book own xs i d all lt is = subst (λ (o : Option RunBook). IfSome o (λ b. b ≡ book)) is (all i d lt)

  -- One seat has given the run and its teller, and the others have left it.
  pub all_spans_told : (xs : List (WorkerSeat J X V)) (i : ℕ) (d : WorkerSeat J X V) (station : SeatState J) (tellers told noted spans count : ℕ) → i < length xs → station ≡ away (state_of (slice_index_or xs i d))
      → tellers ≡ 1 → told ≡ told_in_run (slice_index_or xs i d) → noted ≡ spans → count ≡ length xs
      → (tellers + sum_by teller_count (slice_set xs i record { watcher = (slice_index_or xs i d).watcher; station = station }) ≡ count
      → told + sum_by teller_told (slice_set xs i record { watcher = (slice_index_or xs i d).watcher; station = station }) ≡ noted)
      → All HasFound xs → sum_by told_in_run xs ≡ spans
  all_spans_told xs i d station tellers told noted spans count lt went one its all_noted counted even all =
      let seat : WorkerSeat J X V = record { watcher = (slice_index_or xs i d).watcher; station = station } in
      let tellers_set : sum_by teller_count (slice_set xs i seat) + teller_count (slice_index_or xs i d) ≡ sum_by teller_count xs + teller_count seat = sum_by-set teller_count xs i seat d lt in
      let told_set : sum_by teller_told (slice_set xs i seat) + teller_told (slice_index_or xs i d) ≡ sum_by teller_told xs + teller_told seat = sum_by-set teller_told xs i seat d lt in
      let found : HasFound (slice_index_or xs i d) = all i d lt in
      let one_teller : teller_count (slice_index_or xs i d) ≡ 1 = ap (λ (b : Bool). if b then 1 else 0) found in
      let one_told : teller_told (slice_index_or xs i d) ≡ told_in_run (slice_index_or xs i d) = ap (λ (b : Bool). if b then told_in_run (slice_index_or xs i d) else 0) found in
      let no_teller : teller_count seat ≡ 0 = ap (λ (s : SeatState J). if s.closed then 1 else 0) went in
      let none_told : teller_told seat ≡ 0 = ap (λ (s : SeatState J). if s.closed then s.told else 0) went in
      let tellers_all = all_counted xs all in
      let told_all = all_told xs all in
      let is_even = even (omega (arith, tellers_set, one_teller, no_teller, tellers_all, one, counted)) in
      omega (arith, told_set, one_told, none_told, told_all, its, all_noted, is_even)
