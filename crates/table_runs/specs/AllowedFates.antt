-- What became of releases, by what their job allows.
use Rattle.std.specs.Prelude.{◌≡◌, ℕ, Bool, true, false, List, map, IfSome, Option, Some, None}
use Rattle.std.specs.Arc.{arc_value}
use Rattle.journal_rules.specs.declared.entry.Why.{Why}
use Rattle.join_words.specs.Ins.{found_of, parts_of}
use Rattle.join_words.specs.declared.ins.Ins.{Ins}
use Rattle.join_tables.specs.declared.fates.Fate.{Fate}
use Rattle.join_tables.specs.declared.fates.Fate.TheVariants.{Ended, Faulted, Dropped, AllDropped}
use Rattle.run_frame.specs.Legal.{IsKept}
use Rattle.run_frame.specs.Meaning.{Meaning}
use Rattle.run_frame.specs.NestedRule.{InnerEnd, InnerWhy, IsInnerOf}
use Rattle.run_frame.specs.WorkRule.{Work, Answers, FaultAllowed}
use Rattle.run_frame.specs.declared.run.FrameRun.{FrameRun}

-- the work of a start of this task that found these inputs
abbrev pub work_with : {V : Type 0} → ℕ → Ins V → Work V
work_with t ins = record { task = t; found = map found_of (parts_of ins) }

-- An End with this value and these edges comes from what the job answers: from a value, or, where it is an inner End,
-- from the run of a job.
abbrev pub EndAllowed : {J V : Type 0} → Meaning J V → J → Work V → V → List ℕ → Bool → Option (FrameRun J V) → Type 0
EndAllowed meaning job work v gives false None = Answers meaning job work v gives
EndAllowed meaning job work v gives true (Some run) = InnerEnd meaning job work v gives run
EndAllowed meaning job work v gives _ _ = ⊥

-- So does a Fault, for a reason of the work's own or for one that the run of a job gives.
abbrev pub WhyAllowed : {J V : Type 0} → Meaning J V → J → Work V → Why → Option (FrameRun J V) → Type 0
WhyAllowed meaning job work why None = FaultAllowed meaning job work why
WhyAllowed meaning job work why (Some run) = IsInnerOf meaning job work run × InnerWhy meaning run why

-- The value with which a start ended and the edges that it gave, or the reason for which it faulted, are of the work
-- that the job allows on what the start found, with the run that was made in place of the work, if one was. A release
-- that was dropped made none.
abbrev pub FateAllowed : {J V : Type 0} → Meaning J V → J → Fate V → Option (FrameRun J V) → Type 0
FateAllowed meaning job (Ended e) run = EndAllowed meaning job (work_with e.task e.found.ins.value) (arc_value e.value) e.gives e.inner run
FateAllowed meaning job (Faulted f) run = WhyAllowed meaning job (work_with f.task f.found.ins.value) f.why run
FateAllowed meaning job (Dropped d) run = run ≡ None
FateAllowed meaning job (AllDropped drops) run = run ≡ None

-- The same, and that run may be kept.
pub record IsAllowed {J V : Type 0} (meaning : Meaning J V) (job : J) (fate : Fate V) (run : Option (FrameRun J V)) : Type 0 where
  pub by_job : FateAllowed meaning job fate run
  pub kept : IfSome run (IsKept meaning)
