-- Rounds, and one more.
use Rattle.std.proofs.Common.{◌≡◌, ℕ, suc, ◌+◌, ◌-◌, ◌<◌, ◌⊎◌, false, List, [], ◌∷◌, ◌++◌, length, take, Option, Some, None, All, inl, inr, sym, refl, ap, ◌∙◌, subst, arith, length-append}
use Rattle.std.specs.Prelude.{slice_get, IfSome}
use Rattle.std.proofs.lemmas.Bool.{cases_order}
use Rattle.std.proofs.lemmas.List.{take-append-le}
use Rattle.std.proofs.lemmas.List.Elements.{All-push, All-nil}
use Rattle.std.proofs.lemmas.Option.{slice_get_past}
use Rattle.std.proofs.Math.Seq.{take-append_seam}
use Rattle.journal_rules.proofs.Snoc.{slice_get_push_below, slice_get_push_last}
use Rattle.run_frame.specs.declared.run.FrameRun.{FrameRun}
use Rattle.run_frame.specs.Meaning.{Meaning}
use Rattle.run_frame.specs.Legal.{IsKept}
use Rattle.run_frame.specs.NestedRule.{job_of, journal_of}
use Rattle.run_frame.specs.Runs.{IsFine}
use Rattle.worker_seat.specs.Crews.{IsKeptOf}
use Rattle.nested_runs.specs.Rounds.{AreFirstRounds, AreRounds, IsNextRound, RoundRule, last_run}
use Rattle.topology_runs.specs.inside.Nexts.{FollowsLast, IsLastFine}

module _ {J V : Type 0} (meaning : Meaning J V) (job : J) where
  abbrev Runs : Type 0
  Runs = List (FrameRun J V)

  -- no rounds were run yet
  no_rounds : AreRounds meaning job []
  no_rounds = record { kept = All-nil _; first = tt; next = λ n. tt }

  pub no_first_rounds : (rule : RoundRule J V) (runs : Runs) → runs ≡ [] → AreFirstRounds meaning job rule runs
  no_first_rounds rule runs none =
      subst (AreFirstRounds meaning job rule) (sym none) (record { rounds = no_rounds; few = omega arith; went_on = λ n below. absurd (omega (arith, below)) })

  -- what holds of two options holds of the same
  abbrev both : (o p : Option (FrameRun J V)) → Type 0
  both o p = IfSome o (λ last. IfSome p (IsNextRound meaning last))

  nothing_after : (o : Option (FrameRun J V)) → both o None
  nothing_after None = tt
  nothing_after (Some run) = tt

  module _ (runs : Runs) (run : FrameRun J V) (are : AreRounds meaning job runs) (kept : IsKept meaning run)
      (follows : FollowsLast meaning job (last_run runs) (job_of run)) (fine : IsLastFine runs) where
    after_last : (o : Option (FrameRun J V)) → FollowsLast meaning job o (job_of run) → IfSome o (λ last. IsFine (journal_of last)) → both o (Some run)
    after_last None follows fine = tt
    after_last (Some last) follows fine = record { fine = fine; follows = follows }

    next_at : (n : ℕ) → both (slice_get (runs ++ run ∷ []) n) (slice_get (runs ++ run ∷ []) (suc n))
    next_at n = by_order (cases_order (suc n) (length runs))
      where
        by_order : (suc n ≡ length runs) ⊎ ((suc n < length runs) ⊎ (length runs < suc n)) → both (slice_get (runs ++ run ∷ []) n) (slice_get (runs ++ run ∷ []) (suc n))
        by_order (inl last) =
            let place : length runs - 1 ≡ n = omega (arith, last) in
            subst (λ o. both o (slice_get (runs ++ run ∷ []) (suc n))) (ap (slice_get runs) place ∙ sym (slice_get_push_below runs run n (omega (arith, last))))
            (subst (λ o. both (last_run runs) o) (sym (slice_get_push_last runs run) ∙ ap (slice_get (runs ++ run ∷ [])) (sym last))
            (after_last (last_run runs) follows fine))
        by_order (inr (inl below)) =
            subst (λ o. both o (slice_get (runs ++ run ∷ []) (suc n))) (sym (slice_get_push_below runs run n (omega (arith, below))))
            (subst (λ o. both (slice_get runs n) o) (sym (slice_get_push_below runs run (suc n) below)) (are.next n))
        by_order (inr (inr over)) =
            subst (both (slice_get (runs ++ run ∷ []) n)) (sym (slice_get_past (runs ++ run ∷ []) (suc n) (let long : length (runs ++ run ∷ []) ≡ length runs + 1 = length-append runs (run ∷ []) in omega (arith, long, over))))
            (nothing_after (slice_get (runs ++ run ∷ []) n))

    first_at : (rs : Runs) → rs ≡ runs → IfSome (slice_get (rs ++ run ∷ []) 0) (λ one. job_of one ≡ job)
    first_at [] same = subst (λ (o : Option (FrameRun J V)). FollowsLast meaning job o (job_of run)) (ap last_run (sym same)) follows
    first_at (one ∷ rest) same = subst (λ (rs : Runs). IfSome (slice_get rs 0) (λ r. job_of r ≡ job)) (sym same) are.first

    pub rounds_more : AreRounds meaning job (runs ++ run ∷ [])
    rounds_more = record {
      kept = All-push (IsKept meaning) runs run are.kept kept;
      first = first_at runs refl;
      next = next_at;
    }

  -- One round more, which the rule has not ended before.
  pub first_rounds_more : (rule : RoundRule J V) (runs : Runs) (run : FrameRun J V) → AreFirstRounds meaning job rule runs → IsKept meaning run
      → FollowsLast meaning job (last_run runs) (job_of run) → IsLastFine runs → length runs < rule.most → rule.ends runs ≡ false
      → AreFirstRounds meaning job rule (runs ++ run ∷ [])
  first_rounds_more rule runs run are kept follows fine few goes = record {
    rounds = rounds_more runs run are.rounds kept follows fine;
    few = omega (arith, few, longer);
    went_on = went;
  }
    where
      longer : length (runs ++ run ∷ []) ≡ length runs + 1
      longer = length-append runs (run ∷ [])

      went : (n : ℕ) → n < length (runs ++ run ∷ []) → rule.ends (take n (runs ++ run ∷ [])) ≡ false
      went n below = by_order (cases_order n (length runs))
        where
          by_order : (n ≡ length runs) ⊎ ((n < length runs) ⊎ (length runs < n)) → rule.ends (take n (runs ++ run ∷ [])) ≡ false
          by_order (inl last) = ap (λ k. rule.ends (take k (runs ++ run ∷ []))) last ∙ ap rule.ends (take-append_seam runs (run ∷ [])) ∙ goes
          by_order (inr (inl inside)) = ap rule.ends (take-append-le n runs (run ∷ []) (omega (arith, inside))) ∙ are.went_on n inside
          by_order (inr (inr over)) = absurd (omega (arith, over, below, longer))

  -- So it is where the run is put behind these, of which it was seen before that they go on.
  pub first_rounds_next : (rule : RoundRule J V) (runs seen room asked next : Runs) (run : FrameRun J V) (follower : J) → seen ≡ runs → room ≡ runs → asked ≡ room
      → next ≡ room ++ run ∷ [] → AreFirstRounds meaning job rule runs → length runs < rule.most → (rule.ends seen ≡ false) × IsLastFine seen
      → FollowsLast meaning job (last_run asked) follower → IsKeptOf meaning follower run → AreFirstRounds meaning job rule next
  first_rounds_next rule runs seen room asked next run follower seen_is room_is asked_is next_is are few goes follows kept =
      subst (AreFirstRounds meaning job rule) (sym (next_is ∙ ap (λ (rs : Runs). rs ++ run ∷ []) room_is))
      (first_rounds_more rule runs run are kept.kept of_run (subst (λ (rs : Runs). IsLastFine rs) seen_is goes.1) few (ap rule.ends (sym seen_is) ∙ goes.0))
    where
      of_run : FollowsLast meaning job (last_run runs) (job_of run)
      of_run =
          subst (λ (j : J). FollowsLast meaning job (last_run runs) j) (sym kept.same)
          (subst (λ (rs : Runs). FollowsLast meaning job (last_run rs) follower) (asked_is ∙ room_is) follows)

-- Each job may recur, and the job of one run more.
pub recurs_next : {J V : Type 0} (May : J → Type 0) (runs room next : List (FrameRun J V)) (run : FrameRun J V) (job : J) → room ≡ runs → next ≡ room ++ run ∷ []
    → All (λ (r : FrameRun J V). May (job_of r)) runs → job_of run ≡ job → May job → All (λ (r : FrameRun J V). May (job_of r)) next
recurs_next {J} {V} May runs room next run job room_is next_is all same may =
    let P : FrameRun J V → Type 0 = λ r. May (job_of r) in
    subst (λ (rs : List (FrameRun J V)). All P rs) (sym (next_is ∙ ap (λ (rs : List (FrameRun J V)). rs ++ run ∷ []) room_is))
    (All-push P runs run all (subst May (sym same) may))
