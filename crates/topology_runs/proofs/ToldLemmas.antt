-- Watchers that are told the spans of runs, one run after the other.
use Rattle.std.proofs.Common.{◌≡◌, ◌≢◌, ◌<◌, ◌≤◌, ◌+◌, ◌++◌, ◌∙◌, ℕ, zero, suc, Bool, true, false, List, [], ◌∷◌, All, length, map, inl, inr, refl, ap, sym, subst, arith}
use Rattle.std.specs.Prelude.{◌-◌, ◌^◌, ◌⊎◌, ◌||◌, min, sum, sum_by, slice_index_or, slice_set, Option, Some, None, Result, Ok, Err, IfOk, IfSome, ok_or}
use Rattle.std.specs.List.{list_any}
use Rattle.std.proofs.lemmas.Bool.{cases_order}
use Rattle.std.proofs.lemmas.List.Sums.{sum-map, sum_by-append, sum_by-cons}
use Rattle.std.proofs.Math.Nat.{min-eq_left, min-eq_right}
use Rattle.nested_runs.specs.Totals.{all_spans}
use Rattle.run_frame.specs.declared.run.FrameRun.{FrameRun}
use Rattle.worker_seat.specs.declared.seat.WorkerSeat.{WorkerSeat}
use Rattle.worker_seat.specs.Crews.{AreSpansOf, AreWatched, IsServed, IsToldMore, state_of, told_in_run, watcher_of}
use Rattle.topology_runs.specs.Told.{AreTold, AreToldEach, AreToldRounds}

-- one number after the other, each up to the greatest
abbrev most : ℕ
most = 2 ^ 64 - 1

module _ {X : Type 0} (told : X → ℕ) where
  told_twice : (n m : ℕ) (first second third : X) → IsToldMore told n first second → IsToldMore told m second third → IsToldMore told (n + m) first third
  told_twice n m first second third once again = by (cases_order (told first + n) most)
    where
      short : told first + n ≤ most → IsToldMore told (n + m) first third
      short le =
          let sums : told first + n + m ≡ told first + (n + m) = omega arith in
          again ∙ ap (λ (k : ℕ). min (k + m) most) (once ∙ min-eq_left le) ∙ ap (λ (k : ℕ). min k most) sums

      long : most ≤ told first + n → IsToldMore told (n + m) first third
      long le =
          let once_all : most ≤ most + m = omega arith in
          let all : most ≤ told first + (n + m) = omega (arith, le) in
          again ∙ ap (λ (k : ℕ). min (k + m) most) (once ∙ min-eq_right le) ∙ min-eq_right once_all ∙ sym (min-eq_right all)

      by : (told first + n ≡ most) ⊎ ((told first + n < most) ⊎ (most < told first + n)) → IsToldMore told (n + m) first third
      by (inl same) = short (omega (arith, same))
      by (inr (inl below)) = short (omega (arith, below))
      by (inr (inr over)) = long (omega (arith, over))

  abbrev plus : List ℕ → List ℕ → List ℕ
  plus (n ∷ ns) (m ∷ ms) = (n + m) ∷ plus ns ms
  plus _ _ = []

  each_twice : (ns ms : List ℕ) (xs ys zs : List X) → AreToldEach told ns xs ys → AreToldEach told ms ys zs → AreToldEach told (plus ns ms) xs zs × (sum (plus ns ms) ≡ sum ns + sum ms)
  each_twice [] [] [] [] [] once again = (tt, refl)
  each_twice (n ∷ ns) (m ∷ ms) (x ∷ xs) (y ∷ ys) (z ∷ zs) once again =
      let rest = each_twice ns ms xs ys zs once.1 again.1 in
      let sums : sum (plus ns ms) ≡ sum ns + sum ms = rest.1 in
      let all : sum (plus (n ∷ ns) (m ∷ ms)) ≡ (n + m) + sum (plus ns ms) = sum_by-cons (λ (k : ℕ). k) (n + m) (plus ns ms) in
      let ones : sum (n ∷ ns) ≡ n + sum ns = sum_by-cons (λ (k : ℕ). k) n ns in
      let others : sum (m ∷ ms) ≡ m + sum ms = sum_by-cons (λ (k : ℕ). k) m ms in
      ((told_twice n m x y z once.0 again.0, rest.0), omega (arith, sums, all, ones, others))
  each_twice [] [] [] [] (z ∷ zs) once again = absurd again
  each_twice [] (m ∷ ms) [] [] zs once again = absurd again
  each_twice [] ms [] (y ∷ ys) zs once again = absurd once
  each_twice [] ms (x ∷ xs) ys zs once again = absurd once
  each_twice (n ∷ ns) ms [] ys zs once again = absurd once
  each_twice (n ∷ ns) ms (x ∷ xs) [] zs once again = absurd once
  each_twice (n ∷ ns) [] (x ∷ xs) (y ∷ ys) zs once again = absurd again
  each_twice (n ∷ ns) (m ∷ ms) (x ∷ xs) (y ∷ ys) [] once again = absurd again

  together : (n m : ℕ) (xs ys zs : List X) → AreTold told n xs ys → AreTold told m ys zs → AreTold told (n + m) xs zs
  together n m xs ys zs once again =
      let both = each_twice once.numbers again.numbers xs ys zs once.each again.each in
      record { numbers = plus once.numbers again.numbers; all = both.1 ∙ ap (λ (k : ℕ). k + sum again.numbers) once.all ∙ ap (λ (k : ℕ). n + k) again.all; each = both.0 }

  -- one watcher was told
  pub one_told : (n : ℕ) (old new : X) → IsToldMore told n old new → AreTold told n (old ∷ []) (new ∷ [])
  one_told n old new is = record { numbers = n ∷ []; all = omega arith; each = (is, tt) }

module _ {J V X : Type 0} (told : X → ℕ) where
  -- one round more
  pub told_round : (runs : List (FrameRun J V)) (run : FrameRun J V) (old mid new : List X) → AreToldRounds told runs old mid → AreTold told (all_spans run) mid new → AreToldRounds told (runs ++ run ∷ []) old new
  told_round [] run old mid new before one =
      let alone : sum_by all_spans (run ∷ []) ≡ all_spans run = omega arith in
      subst (λ (n : ℕ). AreTold told n old new) (sym alone) (subst (λ (xs : List X). AreTold told (all_spans run) xs new) before one)
  told_round (first ∷ rest) run old mid new before one =
      let alone : sum_by all_spans (run ∷ []) ≡ all_spans run = omega arith in
      let all : sum_by all_spans ((first ∷ rest) ++ run ∷ []) ≡ sum_by all_spans (first ∷ rest) + all_spans run =
      sum_by-append all_spans (first ∷ rest) (run ∷ []) ∙ ap (λ (n : ℕ). sum_by all_spans (first ∷ rest) + n) alone in
      subst (λ (n : ℕ). AreTold told n old new) (sym all) (together told _ _ old mid new before one)

  -- the watchers of seats
  seats_each : (old new : List (WorkerSeat J X V)) → length new ≡ length old → AreWatched told old new → All IsServed new → AreToldEach told (map told_in_run new) (map watcher_of old) (map watcher_of new)
  seats_each [] [] long watched served = tt
  seats_each [] (y ∷ ys) long watched served = absurd (omega (arith, long))
  seats_each (x ∷ xs) [] long watched served = absurd (omega (arith, long))
  seats_each (x ∷ xs) (y ∷ ys) long watched served = (
    watched 0 y (omega arith) (served 0 y (omega arith)),
    seats_each xs ys (omega (arith, long)) (λ k d lt one. watched (suc k) d (omega (arith, lt)) one) (λ k d lt. served (suc k) d (omega (arith, lt))),
  )

  pub seats_told : (spans : ℕ) (old new : List (WorkerSeat J X V)) → length new ≡ length old → AreWatched told old new → All IsServed new → sum_by told_in_run new ≡ spans
      → AreTold told spans (map watcher_of old) (map watcher_of new)
  seats_told spans old new long watched served all = record { numbers = map told_in_run new; all = sum-map told_in_run new ∙ all; each = seats_each old new long watched served }

-- no seat is refused
none_passes : (a b : Bool) → (a || b) ≡ false → (a ≡ false) × (b ≡ false)
none_passes false b is = (refl, is)
none_passes true b is = absurd (cc)

pub all_served : {J V X : Type 0} (seats : List (WorkerSeat J X V)) (refused : Bool) → refused ≡ list_any (λ (s : WorkerSeat J X V). (state_of s).refused) seats → refused ≡ false → All IsServed seats
all_served [] refused is none k d lt = absurd (omega (arith, lt))
all_served (x ∷ xs) refused is none zero d lt = (none_passes (state_of x).refused _ (sym is ∙ none)).0
all_served (x ∷ xs) refused is none (suc k) d lt = all_served xs _ refl (none_passes (state_of x).refused _ (sym is ∙ none)).1 k d (omega (arith, lt))

module _ {J V X : Type 0} (told : X → ℕ) where
  -- what was told by a crew, if no seat was refused
  pub crew_told : {E : Type 0} (o : Option (FrameRun J V)) (e : E) (old new : List (WorkerSeat J X V)) → length new ≡ length old → AreWatched told old new → All IsServed new
      → IfSome o (λ run. All IsServed new → AreSpansOf new run) → IfOk (ok_or o e) (λ run. AreTold told (all_spans run) (map watcher_of old) (map watcher_of new))
  crew_told None e old new long watched served counts = tt
  crew_told (Some run) e old new long watched served counts = seats_told told (all_spans run) old new long watched served (counts served)

  -- and by one thread
  pub alone_told : {E : Type 0} (o : Result (FrameRun J V) E) (xs : List X) (d y : X) → length xs < 2 → IfOk o (λ run. IsToldMore told (all_spans run) (slice_index_or xs 0 d) y)
      → IfOk o (λ run. xs ≢ [] → AreTold told (all_spans run) xs (slice_set xs 0 y))
  alone_told (Err e) xs d y few is = tt
  alone_told (Ok run) [] d y few is = λ some. absurd (some refl)
  alone_told (Ok run) (x ∷ []) d y few is = λ some. one_told told (all_spans run) x y is
  alone_told (Ok run) (x ∷ z ∷ more) d y few is = absurd (omega (arith, few))
