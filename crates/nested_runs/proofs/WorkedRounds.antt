-- Rounds of two runs, of which something was cut short in the second; on both sides of each line of each definition.
use Rattle.std.proofs.Common.{◌≡◌, ℕ, zero, suc, ◌<◌, Bool, true, false, List, [], ◌∷◌, take, Some, None, inl, inr, refl, arith}
use Rattle.std.specs.Prelude.{IfSome, slice_get}
use Rattle.std.proofs.lemmas.List.Elements.{All-cons, All-nil}
use Rattle.run_frame.specs.declared.run.FrameRun.{FrameRun}
use Rattle.run_frame.specs.Meaning.{Meaning}
use Rattle.run_frame.specs.Legal.{IsKept}
use Rattle.run_frame.specs.NestedRule.{job_of, journal_of}
use Rattle.run_frame.specs.Runs.{IsFine}
use Rattle.nested_runs.specs.Rounds.{AreAllRounds, AreFirstRounds, AreRounds, IsNextRound, LastWasCut, RoundRule, last_run, times}

-- a rule that ends the rounds after one
abbrev is_one : {X : Type 0} → List X → Bool
is_one [] = false
is_one (x ∷ []) = true
is_one (x ∷ y ∷ xs) = false

abbrev after_one : {J V : Type 0} → RoundRule J V
after_one = record { most = 3; ends = is_one }

-- a rule that ends them before the first
abbrev at_once : {J V : Type 0} → RoundRule J V
at_once = record { most = 3; ends = λ runs. true }

-- The job of the cut run follows the fine one. No job follows the fine run but that one, and the third run isn't kept.
module _ {J V : Type 0} (meaning : Meaning J V) (fine cut other : FrameRun J V) (kept_fine : IsKept meaning fine) (kept_cut : IsKept meaning cut)
    (is_fine : IsFine (journal_of fine)) (is_cut : ¬ IsFine (journal_of cut)) (follows : meaning.follows (job_of fine) fine (job_of cut))
    (never_again : ¬ meaning.follows (job_of fine) fine (job_of fine)) (not_kept : ¬ IsKept meaning other) where
  cut_after_fine : IsNextRound meaning fine cut
  cut_after_fine = record { fine = is_fine; follows = follows }

  none_after_cut : ¬ IsNextRound meaning cut fine
  none_after_cut is = is_cut is.fine

  not_the_same_job_again : ¬ IsNextRound meaning fine fine
  not_the_same_job_again is = never_again is.follows

  no_rounds : (job : J) → AreRounds meaning job []
  no_rounds job = record { kept = All-nil (IsKept meaning); first = tt; next = λ n. tt }

  one_round : AreRounds meaning (job_of fine) (fine ∷ [])
  one_round = record { kept = All-cons (IsKept meaning) fine [] kept_fine (All-nil (IsKept meaning)); first = refl; next = next }
    where
      next : (n : ℕ) → IfSome (slice_get (fine ∷ []) n) (λ last. IfSome (slice_get (fine ∷ []) (suc n)) (IsNextRound meaning last))
      next zero = tt
      next (suc n) = tt

  two_rounds : AreRounds meaning (job_of fine) (fine ∷ cut ∷ [])
  two_rounds = record {
    kept = All-cons (IsKept meaning) fine (cut ∷ []) kept_fine (All-cons (IsKept meaning) cut [] kept_cut (All-nil (IsKept meaning)));
    first = refl;
    next = next;
  }
    where
      next : (n : ℕ) → IfSome (slice_get (fine ∷ cut ∷ []) n) (λ last. IfSome (slice_get (fine ∷ cut ∷ []) (suc n)) (IsNextRound meaning last))
      next zero = cut_after_fine
      next (suc zero) = tt
      next (suc (suc n)) = tt

  first_of_another_job : (job : J) → ¬ (job_of fine ≡ job) → ¬ AreRounds meaning job (fine ∷ [])
  first_of_another_job job another are = another are.first

  round_that_is_not_kept : (job : J) → ¬ AreRounds meaning job (other ∷ [])
  round_that_is_not_kept job are = not_kept (are.kept 0 other (omega arith))

  round_after_a_cut_one : (job : J) → ¬ AreRounds meaning job (cut ∷ fine ∷ [])
  round_after_a_cut_one job are = none_after_cut (are.next 0)

  round_that_follows_none : (job : J) → ¬ AreRounds meaning job (fine ∷ fine ∷ [])
  round_that_follows_none job are = not_the_same_job_again (are.next 0)

  -- so many rounds, which nothing else ends
  most_of_times : (times {J = J} {V = V} 3).most ≡ 3
  most_of_times = refl

  times_goes_on : (runs : List (FrameRun J V)) → (times 3).ends runs ≡ false
  times_goes_on runs = refl

  -- The first rounds: no more than there may be, and none after one that ends them.
  first_two_of_three : AreFirstRounds meaning (job_of fine) (times 3) (fine ∷ cut ∷ [])
  first_two_of_three = record { rounds = two_rounds; few = omega arith; went_on = λ n below. refl }

  two_where_one_may_be : (job : J) → ¬ AreFirstRounds meaning job (times 1) (fine ∷ cut ∷ [])
  two_where_one_may_be job are = absurd (omega (arith, are.few))

  one_that_ends_them : AreFirstRounds meaning (job_of fine) after_one (fine ∷ [])
  one_that_ends_them = record { rounds = one_round; few = omega arith; went_on = went_on }
    where
      went_on : (n : ℕ) → n < 1 → is_one (take n (fine ∷ [])) ≡ false
      went_on zero below = refl
      went_on (suc n) below = absurd (omega (arith, below))

  one_more_than_ends_them : (job : J) → ¬ AreFirstRounds meaning job after_one (fine ∷ cut ∷ [])
  one_more_than_ends_them job are = let e : true ≡ false = are.went_on 1 (omega arith) in absurd (cc)

  one_where_none_may_be : (job : J) → ¬ AreFirstRounds meaning job at_once (fine ∷ [])
  one_where_none_may_be job are = let e : true ≡ false = are.went_on 0 (omega arith) in absurd (cc)

  -- the last run
  last_of_two : last_run (fine ∷ cut ∷ []) ≡ Some cut
  last_of_two = refl

  last_of_none : last_run {J = J} {V = V} [] ≡ None
  last_of_none = refl

  cut_at_last : LastWasCut (fine ∷ cut ∷ [])
  cut_at_last = is_cut

  not_cut_at_last : ¬ LastWasCut (cut ∷ fine ∷ [])
  not_cut_at_last was = was is_fine

  nothing_was_cut : ¬ LastWasCut {J = J} {V = V} []
  nothing_was_cut was = was

  -- All rounds: as many as there may be, or ended by the rule, or by a run in which something was cut short.
  all_two : AreAllRounds meaning (job_of fine) (times 2) (fine ∷ cut ∷ [])
  all_two = record { first = record { rounds = two_rounds; few = omega arith; went_on = λ n below. refl }; over = inl refl }

  all_by_the_cut : AreAllRounds meaning (job_of fine) (times 3) (fine ∷ cut ∷ [])
  all_by_the_cut = record { first = first_two_of_three; over = inr (inr cut_at_last) }

  all_by_the_rule : AreAllRounds meaning (job_of fine) after_one (fine ∷ [])
  all_by_the_rule = record { first = one_that_ends_them; over = inr (inl refl) }

  none_by_the_rule : (job : J) → AreAllRounds meaning job at_once []
  none_by_the_rule job = record {
    first = record { rounds = no_rounds job; few = omega arith; went_on = λ n below. absurd (omega (arith, below)) };
    over = inr (inl refl);
  }

  one_of_three : ¬ AreAllRounds meaning (job_of fine) (times 3) (fine ∷ [])
  one_of_three are =
      elim are.over [ inl count ↦ absurd (omega (arith, count)) | inr early ↦ elim early [ inl ended ↦ (let e : false ≡ true = ended in absurd (cc)) | inr was ↦ was is_fine ] ]
