-- What a start may do, and what it may end with.
use Rattle.std.proofs.Common.{◌≡◌, inl, ℕ, zero, suc, ◌<◌, ◌≤◌, true, false, List, [], ◌∷◌, length, Option, Some, None, refl, sym, ap, subst, arith}
use Rattle.std.specs.Prelude.{slice_get, IsSomeAnd, IfSome}
use Rattle.task_graph.specs.NetRows.{NetRows}
use Rattle.task_graph.specs.Net.{out_edges}
use Rattle.task_graph.specs.Chosen.{IsAnswerFor}
use Rattle.task_graph.specs.declared.net.TaskRow.{TaskRow}
use Rattle.journal_rules.specs.declared.entry.Cause.{Cause}
use Rattle.journal_rules.specs.declared.entry.Cause.TheVariants.{Source, Strong, Weak}
use Rattle.journal_rules.specs.declared.entry.Why.{Why}
use Rattle.journal_rules.specs.declared.entry.Why.TheVariants.{Long, Wide, Unmet, Inner, OverRelease}
use Rattle.journal_rules.specs.declared.entry.Entry.{Entry}
use Rattle.journal_rules.specs.declared.entry.Entry.TheVariants.{Start}
use Rattle.journal_rules.specs.DataRule.{edges_of}
use Rattle.journal_rules.specs.ChoiceRule.{GivesFit, InnerFits}
use Rattle.legal_run.proofs.Walking.{gives_once}
use Rattle.table_steps.specs.Giving.{MayEndGiving}
use Rattle.table_steps.specs.Reasons.{MayTell}
use Rattle.table_steps.specs.Releases.{MayBeReleased}
use Rattle.table_steps.proofs.Counting.{times_count}
use Rattle.join_tables.specs.Parts.{parts_in}
use Rattle.join_tables.specs.Claims.{with_units}
use Rattle.join_tables.specs.States.{RunningState, TableState, running_state}
use Rattle.join_tables.specs.Keeping.{start_of, with_places}
use Rattle.table_steps.specs.OneJournal.{AreInOneJournal}
use Rattle.run_frame.specs.Meaning.{Meaning, IsRelease, FitsShape, IsOwnWhy}
use Rattle.run_frame.specs.WorkRule.{Work, FaultAllowed, gives_of}
use Rattle.run_frame.specs.declared.job.Answer.{Answer}
use Rattle.run_frame.specs.declared.job.Answer.TheVariants.{All as AllOf, Indices}
use Rattle.run_frame.specs.declared.run.FrameRun.{FrameRun}
use Rattle.run_frame.specs.NestedRule.{InnerWhy, job_of, journal_of}
use Rattle.run_frame.specs.Runs.{IsFine}
use Rattle.task_graph.specs.declared.net.Shape.{Shape}
use Rattle.task_graph.specs.declared.net.Shape.TheVariants.{Nested}
use Rattle.run_frame.proofs.ChosenLemmas.{choice_fits, gives_in_range, answer_for}
use Rattle.table_runs.specs.AllowedFates.{work_with}
use Rattle.table_runs.specs.OpenStarts.{StartStands}
use Rattle.table_runs.specs.inside.Tables.{RunsJob}

-- what may be released is a release of the net
pub is_release : (net : NetRows) (t n : ℕ) (cause : Cause) → MayBeReleased net t cause → n ≡ length (edges_of net t cause) → IsRelease net t n
is_release net t n Source may size = record { in_range = may.in_tasks; cause = Source; can_release = may.fits; size = size }
is_release net t n Strong may size = record { in_range = may.in_tasks; cause = Strong; can_release = may.fits; size = size }
is_release net t n (Weak e) may size = record { in_range = may.in_tasks; cause = Weak e; can_release = may.fits; size = size }

-- what an answer gives may be given
pub may_give : (net : NetRows) (t : ℕ) (answer : Answer) → t < length net.tasks → IfSome (slice_get net.tasks t) (λ (row : TaskRow). FitsShape row.shape answer) → MayEndGiving net t (gives_of (out_edges net t) answer) false
may_give net t answer below fits = record {
  in_range = gives_in_range net t answer;
  once = λ e. subst (λ n. n ≤ 1) (sym (times_count e gives)) (gives_once net (Start t Source [] ∷ []) 0 gives false chosen e);
  fits = chosen;
}
  where
    gives : List ℕ
    gives = gives_of (out_edges net t) answer

    chosen : IsSomeAnd (slice_get net.tasks t) (λ (row : TaskRow). GivesFit row.shape (out_edges net t) gives × InnerFits row.shape false)
    chosen = choice_fits ℕ {V = ℕ} net t 0 answer below fits

pub may_answer : (net : NetRows) (t : ℕ) (indices : List _) → t < length net.tasks → IfSome (slice_get net.tasks t) (λ (row : TaskRow). FitsShape row.shape (Indices indices)) → IsAnswerFor net t (length indices)
may_answer net t indices below fits = answer_for ℕ {V = ℕ} net t 0 indices below fits

-- a reason of the work's own tells of no unit
pub may_tell : (why : Why) (refused : Option ℕ) → IsOwnWhy why → MayTell why refused
may_tell (Long n) refused own = tt
may_tell (Wide n) refused own = tt
may_tell (Unmet k) refused own = tt
may_tell Inner refused own = absurd own
may_tell (OverRelease s) refused own = absurd own

pub fault_allowed : {J V : Type 0} (meaning : Meaning J V) (job : J) (w : Work V) (why : Why) → IsOwnWhy why → meaning.faults job w.task w.found why → FaultAllowed meaning job w why
fault_allowed meaning job w (Long n) own may = may
fault_allowed meaning job w (Wide n) own may = may
fault_allowed meaning job w (Unmet k) own may = may
fault_allowed meaning job w Inner own may = absurd own
fault_allowed meaning job w (OverRelease s) own may = absurd own

past_tasks : {X : Type 0} (xs : List X) (i : ℕ) → i < length xs → slice_get xs i ≡ None → ⊥
past_tasks [] i below none = absurd (omega (arith, below))
past_tasks (x ∷ xs) zero below none = absurd (cc)
past_tasks (x ∷ xs) (suc i) below none = past_tasks xs i (omega (arith, below)) none

-- an inner End may give all edges
pub may_give_all : (net : NetRows) (t : ℕ) → t < length net.tasks → IfSome (slice_get net.tasks t) (λ (row : TaskRow). row.shape ≡ Nested) → MayEndGiving net t (out_edges net t) true
may_give_all net t below nested = record {
  in_range = gives_in_range net t AllOf;
  once = λ e. subst (λ n. n ≤ 1) (sym (times_count e (out_edges net t))) (gives_once net (Start t Source [] ∷ []) 0 (out_edges net t) true chosen e);
  fits = chosen;
}
  where
    by_row : (row : Option TaskRow) → slice_get net.tasks t ≡ row → IfSome row (λ (r : TaskRow). r.shape ≡ Nested) → IsSomeAnd row (λ (r : TaskRow). GivesFit r.shape (out_edges net t) (out_edges net t) × InnerFits r.shape true)
    by_row None is f = absurd (past_tasks net.tasks t below is)
    by_row (Some row) is f = subst (λ (s : Shape). GivesFit s (out_edges net t) (out_edges net t) × InnerFits s true) (sym f) (inl refl, tt)

    chosen : IsSomeAnd (slice_get net.tasks t) (λ (row : TaskRow). GivesFit row.shape (out_edges net t) (out_edges net t) × InnerFits row.shape true)
    chosen = by_row (slice_get net.tasks t) refl nested

-- a reason that gathering a run names is one for a Fault with that run
pub inner_why : {J V : Type 0} (meaning : Meaning J V) (run : FrameRun J V) (why : Why) → IsOwnWhy why → IsFine (journal_of run) → meaning.gather_faults (job_of run) run why → InnerWhy meaning run why
inner_why meaning run (Long n) own fine may = (fine, may)
inner_why meaning run (Wide n) own fine may = (fine, may)
inner_why meaning run (Unmet k) own fine may = (fine, may)
inner_why meaning run Inner own fine may = absurd own
inner_why meaning run (OverRelease s) own fine may = absurd own

-- a start that has claimed its units does the same work
pub same_work : {V : Type 0} (r q : RunningState V) → q ≡ with_units r q.units q → work_with q.task q.ins ≡ work_with r.task r.ins
same_work r q same = ap (λ (x : RunningState _). work_with x.task x.ins) same

-- what is in one journal by the net and the limit of a table is so by those of its job
in_journal_of : {J V : Type 0} (meaning : Meaning J V) (job : J) (table : TableState) (entries : List (ℕ × Entry)) → RunsJob meaning job table → AreInOneJournal table.net table.limit entries → AreInOneJournal (meaning.net job) (meaning.limit job) entries
in_journal_of meaning job table entries runs within =
    subst (λ (n : NetRows). AreInOneJournal n (meaning.limit job) entries) runs.net (subst (λ (l : ℕ). AreInOneJournal table.net l entries) runs.limit within)

-- the entry of a start is in one journal by the job's net, also once its units are credited
pub start_stands : {J V : Type 0} (meaning : Meaning J V) (job : J) (table : TableState) (t : ℕ) (cause : Cause) (found : List ℕ) (r q : RunningState V) → RunsJob meaning job table → r ≡ running_state table.table t cause r.place r.ins r.units found → q ≡ with_units r q.units q
    → AreInOneJournal table.net table.limit (with_places (start_of r.place t cause (parts_in r.ins) ∷ [])) → StartStands meaning job q
start_stands {V} meaning job table t cause found r q runs is same journal =
    let told = in_journal_of meaning job table (with_places (start_of r.place t cause (parts_in r.ins) ∷ [])) runs journal in
    let own : StartStands meaning job r = subst (λ (x : RunningState V). AreInOneJournal (meaning.net job) (meaning.limit job) (with_places (start_of r.place x.task x.cause (parts_in r.ins) ∷ []))) (sym is) told in
    subst (StartStands meaning job) (sym same) own
