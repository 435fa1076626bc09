-- Teams of both kinds, and which job is run next; on both sides of each line of each definition.
use Rattle.std.proofs.Common.{◌≡◌, ◌<◌, ℕ, List, [], ◌∷◌, All, Some, None, Vec, length, map, refl, ap, sym, subst, arith}
use Rattle.std.specs.Prelude.{sum}
use Rattle.std.specs.Global.{Global}
use Rattle.nested_runs.specs.Totals.{all_spans}
use Rattle.run_frame.specs.declared.run.FrameRun.{FrameRun}
use Rattle.run_frame.specs.Meaning.{Meaning}
use Rattle.run_frame.specs.NestedRule.{job_of, journal_of}
use Rattle.run_frame.specs.Runs.{IsFine}
use Rattle.worker_seat.specs.declared.crew.Crew.{Crew}
use Rattle.worker_seat.specs.declared.seat.WorkerSeat.{WorkerSeat}
use Rattle.worker_seat.specs.Crews.{AreSeatsOf, MayBegin, watcher_of}
use Rattle.topology_runs.specs.Teams.{IsReady, watchers_of}
use Rattle.topology_runs.specs.Told.{AreTold, AreToldEach, AreToldRounds}
use Rattle.topology_runs.specs.declared.team.Team.{Team}
use Rattle.topology_runs.specs.declared.team.Workers.TheVariants.{Alone, Seated}
use Rattle.topology_runs.specs.inside.Nexts.{FollowsLast, IsLastFine}

module _ {J V X : Type 0} (alloc : Global) (watchers : Vec X Global) (crew : Crew J V) (seats : Vec (WorkerSeat J X V) Global) where
  abbrev alone : Team J X V
  alone = record { alloc = alloc; workers = Alone watchers }

  abbrev seated : Team J X V
  seated = record { alloc = alloc; workers = Seated crew seats }

  watchers_alone : watchers_of alone ≡ watchers.items
  watchers_alone = refl

  watchers_seated : watchers_of seated ≡ map watcher_of seats.items
  watchers_seated = refl

  -- One thread may always run a job, with at most one watcher; seats may where they are all seats of the crew, and none
  -- was ever refused.
  ready_alone : length watchers.items < 2 → IsReady alone
  ready_alone few = few

  two_watchers_alone : ¬ (length watchers.items < 2) → ¬ IsReady alone
  two_watchers_alone many ready = many ready

  ready_seated : AreSeatsOf crew seats.items → All MayBegin seats.items → IsReady seated
  ready_seated are may = (are, may)

  not_all_seats : ¬ AreSeatsOf crew seats.items → ¬ IsReady seated
  not_all_seats not_all ready = not_all ready.0

  one_seat_refused : ¬ All MayBegin seats.items → ¬ IsReady seated
  one_seat_refused refused ready = refused ready.1

-- Watchers are the numbers of spans that they were told: the first was told one more, the second two.
abbrev itself : ℕ → ℕ
itself n = n

each_told : AreToldEach itself (1 ∷ 2 ∷ []) (0 ∷ 5 ∷ []) (1 ∷ 7 ∷ [])
each_told = (refl, (refl, tt))

one_not_told : ¬ AreToldEach itself (1 ∷ 2 ∷ []) (0 ∷ 5 ∷ []) (1 ∷ 5 ∷ [])
one_not_told are = absurd (omega (arith, are.1.0))

one_number_short : ¬ AreToldEach itself (1 ∷ []) (0 ∷ 5 ∷ []) (1 ∷ 5 ∷ [])
one_number_short are = are.1

told_together : AreTold itself 3 (0 ∷ 5 ∷ []) (1 ∷ 7 ∷ [])
told_together = record { numbers = 1 ∷ 2 ∷ []; all = refl; each = each_told }

told_too_few : ¬ AreTold itself 4 (0 ∷ []) (3 ∷ [])
told_too_few are = by are.numbers are.all are.each
  where
    by : (numbers : List ℕ) → sum numbers ≡ 4 → AreToldEach itself numbers (0 ∷ []) (3 ∷ []) → ⊥
    by [] all each = each
    by (n ∷ []) all each = absurd (omega (arith, all, each.0))
    by (n ∷ m ∷ more) all each = each.1

module _ (J V : Type 0) where
  before_any_round : AreToldRounds {J = J} {V = V} itself [] (4 ∷ []) (4 ∷ [])
  before_any_round = refl

  told_before_any_round : ¬ AreToldRounds {J = J} {V = V} itself [] (4 ∷ []) (5 ∷ [])
  told_before_any_round same = absurd (omega (arith, ap sum same))

  after_a_round : (run : FrameRun J V) → all_spans run ≡ 3 → AreToldRounds itself (run ∷ []) (0 ∷ 5 ∷ []) (1 ∷ 7 ∷ [])
  after_a_round run three = subst (λ (n : ℕ). AreTold itself n (0 ∷ 5 ∷ []) (1 ∷ 7 ∷ [])) (sym (omega (arith, three))) told_together

module _ {J V : Type 0} (meaning : Meaning J V) (first other : J) (one two : FrameRun J V) where
  first_before_any_run : FollowsLast meaning first None first
  first_before_any_run = refl

  another_before_any_run : ¬ (other ≡ first) → ¬ FollowsLast meaning first None other
  another_before_any_run differs follows = differs follows

  one_that_follows : meaning.follows (job_of one) one other → FollowsLast meaning first (Some one) other
  one_that_follows follows = follows

  first_again : ¬ meaning.follows (job_of one) one first → ¬ FollowsLast meaning first (Some one) first
  first_again never follows = never follows

  -- Nothing was cut short in the last of no runs; of two it is the second that counts.
  no_runs_fine : IsLastFine {J = J} {V = V} []
  no_runs_fine = tt

  second_fine : IsFine (journal_of two) → IsLastFine (one ∷ two ∷ [])
  second_fine fine = fine

  second_cut : ¬ IsFine (journal_of two) → ¬ IsLastFine (one ∷ two ∷ [])
  second_cut cut fine = cut fine
