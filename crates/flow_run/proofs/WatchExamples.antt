-- What the watchers of calls are told, on both sides of each line. Watchers are the numbers of spans that they were
-- told.
use Rattle.std.proofs.Common.{◌≡◌, ◌≢◌, ℕ, ◌+◌, Bool, List, [], ◌∷◌, Some, None, refl, ap, sym, subst, arith}
use Rattle.std.specs.Prelude.{sum}
use Rattle.command_line.specs.Requests.{AskedRounds, run as run_asked, profile as profile_asked, judge as judge_asked, check as check_asked, upgrade as upgrade_asked, generate as generate_asked, count as count_asked}
use Rattle.nested_runs.specs.Totals.{all_spans}
use Rattle.topology_runs.specs.Told.{AreTold, AreToldEach}
use Rattle.flow_run.specs.RoundTexts.{TextRun}
use Rattle.flow_run.specs.Watched.{HaveSeen, asked_workers}

module _ (file name : List ℕ) (rounds : AskedRounds) (journal : Bool) where
  workers_of_a_run : asked_workers (Some (run_asked file 9 4 rounds journal)) ≡ 4
  workers_of_a_run = refl

  workers_of_a_profile : asked_workers (Some (profile_asked file 9 4 rounds)) ≡ 4
  workers_of_a_profile = refl

  workers_of_a_generated_graph : asked_workers (Some (generate_asked 9 4)) ≡ 4
  workers_of_a_generated_graph = refl

  workers_of_nothing_to_run : (asked_workers (Some (judge_asked file name 9)) ≡ 0) × (asked_workers (Some (check_asked file)) ≡ 0) × (asked_workers (Some (upgrade_asked file)) ≡ 0) × (asked_workers (Some (count_asked name file 9 4)) ≡ 0) × (asked_workers None ≡ 0)
  workers_of_nothing_to_run = (refl, refl, refl, refl, refl)

abbrev itself : ℕ → ℕ
itself n = n

-- Two workers end a run of three spans; there is a third watcher.
module _ (run : TextRun) (three : all_spans run ≡ 3) where
  told_by_two : HaveSeen itself 2 (Unit {0}) (run ∷ []) (0 ∷ 5 ∷ 8 ∷ []) (1 ∷ 7 ∷ 8 ∷ [])
  told_by_two = record {
    seen = λ all some. subst (λ n. AreTold itself n (0 ∷ 5 ∷ []) (1 ∷ 7 ∷ [])) (sym (omega (arith, three))) (record { numbers = 1 ∷ 2 ∷ []; all = refl; each = (refl, (refl, tt)) });
    others = refl;
    count = refl;
  }

  told_where_memory_ran_out : HaveSeen itself 2 ⊥ (run ∷ []) (0 ∷ 5 ∷ 8 ∷ []) (1 ∷ 5 ∷ 8 ∷ [])
  told_where_memory_ran_out = record { seen = λ all some. absurd all; others = refl; count = refl }

  nobody_to_tell : HaveSeen itself 2 (Unit {0}) (run ∷ []) [] []
  nobody_to_tell = record { seen = λ all some. absurd (some refl); others = refl; count = refl }

  told_a_watcher_without_worker : ¬ HaveSeen itself 2 (Unit {0}) (run ∷ []) (0 ∷ 5 ∷ 8 ∷ []) (1 ∷ 6 ∷ 9 ∷ [])
  told_a_watcher_without_worker have = absurd (omega (arith, ap sum have.others))

  lost_a_watcher : ¬ HaveSeen itself 2 ⊥ (run ∷ []) (0 ∷ 5 ∷ []) (0 ∷ [])
  lost_a_watcher have = absurd (omega (arith, have.count))

  told_one_too_few : ¬ HaveSeen itself 1 (Unit {0}) (run ∷ []) (4 ∷ []) (6 ∷ [])
  told_one_too_few have = by (have.seen tt (λ none. absurd (omega (arith, ap sum none))))
    where
      by : ¬ AreTold itself (0 + all_spans run) (4 ∷ []) (6 ∷ [])
      by told = by_numbers told.numbers told.all told.each
        where
          by_numbers : (numbers : List ℕ) → sum numbers ≡ 0 + all_spans run → AreToldEach itself numbers (4 ∷ []) (6 ∷ []) → ⊥
          by_numbers [] all each = each
          by_numbers (n ∷ []) all each = absurd (omega (arith, all, each.0, three))
          by_numbers (n ∷ m ∷ more) all each = each.1

told_without_a_run : ¬ HaveSeen itself 1 (Unit {0}) [] (4 ∷ []) (5 ∷ [])
told_without_a_run have = absurd (omega (arith, ap sum (have.seen tt (λ none. absurd (omega (arith, ap sum none))))))
