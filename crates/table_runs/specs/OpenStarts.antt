-- Starts whose work is a run inside their own.
use Rattle.std.specs.Prelude.{◌≡◌, [], ◌∷◌, map}
use Rattle.join_words.specs.Ins.{found_of, parts_of}
use Rattle.table_steps.specs.OneJournal.{AreInOneJournal}
use Rattle.join_tables.specs.Keeping.{start_of, with_places}
use Rattle.join_tables.specs.Parts.{parts_in}
use Rattle.join_tables.specs.States.{RunningState}
use Rattle.run_frame.specs.Meaning.{Meaning}
use Rattle.run_frame.specs.declared.job.Done.TheVariants.{Inner as InnerJob}
use Rattle.table_runs.specs.RunKeys.{FrameKey}
use Rattle.table_runs.specs.Runs.{MayWork}

-- a start, and the frame whose task has started
pub record OpenStartView (J V : Type 0) : Type 0 where
  pub frame : FrameKey J
  pub running : RunningState V

-- The Start is in one journal that is legal as far as the job's net decides and whose starts find what they may.
abbrev pub StartStands : {J V : Type 0} → Meaning J V → J → RunningState V → Type 0
StartStands meaning job r = AreInOneJournal (meaning.net job) (meaning.limit job) (with_places (start_of r.place r.task r.cause (parts_in r.ins) ∷ []))

-- A start of a frame's table is open for a run of a job: the frame's job answers that job in place of its work.
pub record IsOpenFor {J V : Type 0} (meaning : Meaning J V) (frame : FrameKey J) (inner : J) (r : RunningState V) : Type 0 where
  pub table : r.table ≡ frame.table
  pub may : MayWork (meaning.net frame.job) r
  pub journal : StartStands meaning frame.job r
  pub answered : meaning.answers frame.job r.task (map found_of (parts_of r.ins)) (InnerJob inner)

-- a start that is open for the run of a keeper
abbrev pub IsStartOf : {J V : Type 0} → Meaning J V → J → OpenStartView J V → Type 0
IsStartOf meaning job start = IsOpenFor meaning start.frame job start.running
