-- What a call needs in order to do all that it is asked for.
use Rattle.std.specs.Prelude.{◌≡◌, ℕ, List, Option, IsSomeAnd}
use Rattle.outside_io.specs.Sink.{SinkState}
use Rattle.command_line.specs.Requests.{Asked, run, profile, judge, check, upgrade, generate, count}
use Rattle.flow_run.specs.Requests.{SourceTexts, CanBeRun}
use Rattle.flow_run.specs.Judgements.{CanBeJudged}
use Rattle.flow_run.specs.PlanFiles.{HoldsPlan}
use Rattle.flow_run.specs.Counted.{HoldsText}

-- What a command needs is at hand: the source specifies what it holds, and holds what that command needs. A generated
-- graph needs nothing.
abbrev pub HoldsFor : SourceTexts → Asked → Type 0
HoldsFor held (run file limit workers rounds journal) = IsSomeAnd held (λ text. CanBeRun text file)
HoldsFor held (profile file limit workers rounds) = IsSomeAnd held (λ text. CanBeRun text file)
HoldsFor held (judge file name limit) = IsSomeAnd held (λ text. CanBeJudged text file name limit)
HoldsFor held (check file) = IsSomeAnd held (λ text. HoldsPlan text file)
HoldsFor held (upgrade file) = IsSomeAnd held (λ text. HoldsPlan text file)
HoldsFor held (generate layers workers) = Unit {0}
HoldsFor held (count word file grain workers) = IsSomeAnd held (λ text. HoldsText text file)

-- What is asked for is one of the commands, and what it needs is at hand.
abbrev pub IsAtHand : SourceTexts → Option Asked → Type 0
IsAtHand held asked = IsSomeAnd asked (HoldsFor held)

-- no read of the texts failed, and no write to the output
pub record NothingFails {F S : Type 0} (failed : F → List (List ℕ)) (state : S → SinkState) (texts texts_after : F) (out out_after : S) : Type 0 where
  pub reads : failed texts_after ≡ failed texts
  pub writes : (state out_after).faults ≡ (state out).faults
