-- Runs in rounds, one after another.
use Rattle.std.specs.Prelude.{◌≡◌, ◌⊎◌, ℕ, suc, ◌-◌, ◌<◌, ◌≤◌, Bool, true, false, List, length, take, slice_get, All, Option, IfSome, IsSomeAnd}
use Rattle.run_frame.specs.declared.run.FrameRun.{FrameRun}
use Rattle.run_frame.specs.Meaning.{Meaning}
use Rattle.run_frame.specs.Legal.{IsKept}
use Rattle.run_frame.specs.NestedRule.{job_of, journal_of}
use Rattle.run_frame.specs.Runs.{IsFine}

-- A run is the round after another: nothing was cut short in that one, and its job follows it.
pub record IsNextRound {J V : Type 0} (meaning : Meaning J V) (last next : FrameRun J V) : Type 0 where
  pub fine : IsFine (journal_of last)
  pub follows : meaning.follows (job_of last) last (job_of next)

-- These runs are rounds, of which the first is of this job. Each is legal and complete.
pub record AreRounds {J V : Type 0} (meaning : Meaning J V) (job : J) (runs : List (FrameRun J V)) : Type 0 where
  pub kept : All (IsKept meaning) runs
  pub first : IfSome (slice_get runs 0) (λ run. job_of run ≡ job)
  pub next : (n : ℕ) → IfSome (slice_get runs n) (λ last. IfSome (slice_get runs (suc n)) (IsNextRound meaning last))

-- How many rounds there may be, and after which of them there is no further one.
pub record RoundRule (J V : Type 0) : Type 0 where
  pub most : ℕ
  pub ends : List (FrameRun J V) → Bool

-- just so many rounds
abbrev pub times : {J V : Type 0} → ℕ → RoundRule J V
times n = record { most = n; ends = λ runs. false }

-- These are the first rounds of a job by a rule, which ended them at no earlier one.
pub record AreFirstRounds {J V : Type 0} (meaning : Meaning J V) (job : J) (rule : RoundRule J V) (runs : List (FrameRun J V)) : Type 0 where
  pub rounds : AreRounds meaning job runs
  pub few : length runs ≤ rule.most
  pub went_on : (n : ℕ) → n < length runs → rule.ends (take n runs) ≡ false

-- the last of these runs
abbrev pub last_run : {J V : Type 0} → List (FrameRun J V) → Option (FrameRun J V)
last_run runs = slice_get runs (length runs - 1)

-- something was cut short in it
abbrev pub LastWasCut : {J V : Type 0} → List (FrameRun J V) → Type 0
LastWasCut runs = IsSomeAnd (last_run runs) (λ run. ¬ IsFine (journal_of run))

-- These are all rounds of a job by a rule: there are as many as there may be, or the rule ends them here, or something
-- was cut short in the last.
pub record AreAllRounds {J V : Type 0} (meaning : Meaning J V) (job : J) (rule : RoundRule J V) (runs : List (FrameRun J V)) : Type 0 where
  pub first : AreFirstRounds meaning job rule runs
  pub over : (length runs ≡ rule.most) ⊎ (rule.ends runs ≡ true) ⊎ LastWasCut runs
