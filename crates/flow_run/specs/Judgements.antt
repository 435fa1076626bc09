-- What a judgement of a journal asks for, how it ends and what is written of it.
use Rattle.std.specs.Prelude.{◌≡◌, ◌⊎◌, ◌≤◌, ℕ, List, ◌++◌, length, codes, decimal, Option, Some, None, IsSomeAnd}
use Rattle.graph_plans.specs.PlanRows.{PlanRows}
use Rattle.graph_file.specs.PlanText.{PlanText}
use Rattle.journal_rules.specs.declared.entry.Entry.{Entry}
use Rattle.legal_run.specs.declared.verdict.Break.{Break}
use Rattle.legal_run.specs.declared.verdict.Break.TheVariants.{NoSuch, AfterStuck, NotReleased, OverUnits, OverLimit, NotOpen, NotChosen, NothingOut, NotOver, NotHalted, NotStuck}
use Rattle.legal_run.specs.declared.verdict.Verdict.{Verdict}
use Rattle.legal_run.specs.declared.verdict.Verdict.TheVariants.{Complete as Finished, Legal, Breaks}
use Rattle.legal_run.specs.Verdict.{IsVerdict}
use Rattle.journal_text.specs.JournalText.{IsBadLine, IsJournalText}
use Rattle.call_status.specs.declared.status.Status.{Status}
use Rattle.call_status.specs.declared.status.Status.TheVariants.{Done, WriteFault, NoMemory}
use Rattle.call_status.specs.declared.stop.Stop.{Stop}
use Rattle.call_status.specs.declared.stop.Stop.TheVariants as stop
use Rattle.call_status.specs.Statuses.{status_by}
use Rattle.call_status.specs.Stopping.{StoppedBefore}
use Rattle.flow_run.specs.Requests.{SourceTexts, HasPlan, HasStart, IsHeld, StopsAtGraph, StopsAtName, file_limit}
use Rattle.flow_run.specs.declared.conclusion.Conclusion.{Conclusion}
use Rattle.flow_run.specs.declared.conclusion.Conclusion.TheVariants as conclusion

-- the most bytes of a journal file
abbrev pub journal_limit : ℕ
journal_limit = 67108864

-- the bytes held under a name are the text of a journal
pub record HasJournal (held : SourceTexts) (name : List ℕ) (journal : List Entry) : Type 0 where
  pub bytes : List ℕ
  pub read : IsHeld held name journal_limit bytes
  pub stands : IsJournalText journal bytes

-- why bytes that were read as a journal file stop the call
abbrev pub StopsAtJournalBytes : List ℕ → Stop → Type 0
StopsAtJournalBytes bytes (stop.BadJournal line) = IsBadLine bytes line
StopsAtJournalBytes bytes stop.NoMemory = Unit {0}
StopsAtJournalBytes bytes why = ⊥

-- why the text of a journal stops the call
pub record StopsAtJournalText (held : SourceTexts) (name : List ℕ) (why : Stop) : Type 0 where
  pub bytes : List ℕ
  pub read : IsHeld held name journal_limit bytes
  pub stops : StopsAtJournalBytes bytes why

-- why the journal file stops the call, or memory, once there is a graph
abbrev pub StopsAtJournal : SourceTexts → List ℕ → Stop → Type 0
StopsAtJournal held name why = StopsAtName held name journal_limit why ⊎ StopsAtJournalText held name why

pub record StopsBehindGraph (held : SourceTexts) (file name : List ℕ) (why : Stop) : Type 0 where
  pub plan : PlanRows
  pub has : HasPlan held file plan
  pub stops : StopsAtJournal held name why

-- Why a call stops before its verdict: at the graph file, at the graph that it holds, or at the journal file.
abbrev pub StopsBeforeVerdict : SourceTexts → List ℕ → List ℕ → Stop → Type 0
StopsBeforeVerdict held file name why = StopsAtName held file file_limit why ⊎ StopsAtGraph held file why ⊎ StopsBehindGraph held file name why

-- the judge's verdict on the journal in one file by the graph in another, with at most so many starts
pub record IsJudged (held : SourceTexts) (file name : List ℕ) (limit : ℕ) (verdict : Verdict) : Type 0 where
  pub plan : PlanRows
  pub graph : HasPlan held file plan
  pub journal : List Entry
  pub text : HasJournal held name journal
  pub is : IsVerdict plan.top.net limit journal verdict

-- The status is that of the verdict; or that writing failed, where no rule is broken; or, with any verdict, that
-- memory ran out.
abbrev pub IsAfterVerdict : Verdict → Status → Type 0
IsAfterVerdict verdict status = (status ≡ status_by verdict) ⊎ ((status_by verdict ≡ Done) × (status ≡ WriteFault)) ⊎ (status ≡ NoMemory)

-- there is a verdict, and it is reported
pub record EndsJudged (held : SourceTexts) (file name : List ℕ) (limit : ℕ) (status : Status) (concluded : Option Conclusion) : Type 0 where
  pub verdict : Verdict
  pub only : concluded ≡ Some (conclusion.Verdict verdict)
  pub judged : IsJudged held file name limit verdict
  pub after : IsAfterVerdict verdict status

-- How a call ends that is to judge a journal: before the verdict, for a reason that the status has, or after it.
abbrev pub JudgeEnds : SourceTexts → List ℕ → List ℕ → ℕ → Status → Option Conclusion → Type 0
JudgeEnds held file name limit status concluded = StoppedBefore (StopsBeforeVerdict held file name) status (concluded ≡ None) ⊎ EndsJudged held file name limit status concluded

-- which rule an entry breaks, as text
abbrev pub break_text : Break → List ℕ
break_text NoSuch = codes "no such number"
break_text AfterStuck = codes "after stuck"
break_text NotReleased = codes "not released"
break_text (OverUnits sem) = codes "over units " ++ decimal sem
break_text OverLimit = codes "over limit"
break_text NotOpen = codes "not open"
break_text NotChosen = codes "not chosen"
break_text (NothingOut sem) = codes "nothing out " ++ decimal sem
break_text NotOver = codes "not over"
break_text NotHalted = codes "not halted"
break_text NotStuck = codes "not stuck"

-- the line of a verdict, with its end
abbrev pub verdict_line : Verdict → List ℕ
verdict_line Finished = codes "complete\n"
verdict_line Legal = codes "legal\n"
verdict_line (Breaks place why) = codes "breaks at " ++ decimal place ++ codes ": " ++ break_text why ++ codes "\n"

-- What a judgement needs is held, and the journal breaks no rule: the graph file has no more bytes than may be read,
-- and stands for a plan with a task to begin with, or without tasks; the journal file has no more bytes than may be
-- read, and is the text of a journal on which the verdict is no break.
pub record CanBeJudged (text : List ℕ → Option (List ℕ)) (file name : List ℕ) (limit : ℕ) : Type 0 where
  pub plan : PlanRows
  pub journal : List Entry
  pub graph : IsSomeAnd (text file) (λ bytes. (length bytes ≤ file_limit) × PlanText bytes plan)
  pub source : HasStart plan
  pub trace : IsSomeAnd (text name) (λ bytes. (length bytes ≤ journal_limit) × IsJournalText journal bytes)
  pub stands : (place : ℕ) (why : Break) → ¬ IsVerdict plan.top.net limit journal (Breaks place why)
