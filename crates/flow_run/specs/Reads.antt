-- What a call has done to the texts: which reads failed.
use Rattle.std.specs.Prelude.{◌≡◌, ◌⊎◌, ℕ, List, [], ◌∷◌, ◌++◌, Result, Ok, Err}
use Rattle.call_status.specs.declared.status.Status.{Status}
use Rattle.call_status.specs.declared.status.Status.TheVariants.{BadWords, ReadFault, NoMemory}
use Rattle.call_status.specs.declared.stop.Stop.{Stop}
use Rattle.call_status.specs.Statuses.{status_of}
use Rattle.flow_run.specs.Requests.{SourceTexts}

-- no read failed, or one
abbrev pub FailsOnce : List (List ℕ) → List (List ℕ) → Type 0
FailsOnce before after = (after ≡ before) ⊎ ((name : List ℕ) × (after ≡ before ++ name ∷ []))

-- The names whose reads have failed, before and after a call that ends with this status: with ReadFault one more, the
-- one that the status names; without memory one more at most; else no more.
abbrev pub FailsWith : Status → List (List ℕ) → List (List ℕ) → Type 0
FailsWith (ReadFault name) before after = after ≡ before ++ name ∷ []
FailsWith NoMemory before after = FailsOnce before after
FailsWith status before after = after ≡ before

-- the same of reads that stop the call, or don't
abbrev pub FailsBy : {A : Type 0} → Result A Stop → List (List ℕ) → List (List ℕ) → Type 0
FailsBy (Ok read) before after = after ≡ before
FailsBy (Err stop) before after = FailsWith (status_of stop) before after

-- What a call has done to the texts when it ends: what is held stays; the reads that failed are those that its status
-- says; and a command line that asks for nothing leaves the source as it was.
pub record HaveRead {F : Type 0} (held : F → SourceTexts) (failed : F → List (List ℕ)) (old new : F) (status : Status) : Type 0 where
  pub stays : held new ≡ held old
  pub fails : FailsWith status (failed old) (failed new)
  pub untouched : status ≡ BadWords → new ≡ old
