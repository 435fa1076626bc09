-- Watchers that were told spans together.
use Rattle.std.specs.Prelude.{◌≡◌, ℕ, List, [], ◌∷◌, sum, sum_by}
use Rattle.nested_runs.specs.Totals.{all_spans}
use Rattle.run_frame.specs.declared.run.FrameRun.{FrameRun}
use Rattle.span_profile.specs.Watch.{IsToldSince}

-- watchers, and the same after each was told as many spans more as its number says
abbrev pub AreToldEach : {X : Type 0} → (X → ℕ) → List ℕ → List X → List X → Type 0
AreToldEach told [] [] [] = Unit {0}
AreToldEach told (n ∷ numbers) (old ∷ before) (new ∷ after) = IsToldSince told (told old) n new × AreToldEach told numbers before after
AreToldEach told _ _ _ = ⊥

-- watchers, and the same after they were together told so many spans more
pub record AreTold {X : Type 0} (told : X → ℕ) (spans : ℕ) (old new : List X) : Type 0 where
  pub numbers : List ℕ
  pub all : sum numbers ≡ spans
  pub each : AreToldEach told numbers old new

-- the same of the spans of rounds, with the runs inside them; before the first nothing has changed
abbrev pub AreToldRounds : {J V X : Type 0} → (X → ℕ) → List (FrameRun J V) → List X → List X → Type 0
AreToldRounds told [] old new = new ≡ old
AreToldRounds told (run ∷ more) old new = AreTold told (sum_by all_spans (run ∷ more)) old new
