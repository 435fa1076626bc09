-- What holds of each value that a job may answer, or its runs be gathered to, holds of the last value of each task.
use Rattle.std.proofs.Common.{◌≡◌, ℕ, zero, suc, ◌+◌, ◌<◌, Bool, true, false, List, [], ◌∷◌, ◌++◌, length, Option, Some, None, sym, refl, ap, ◌∙◌, subst, arith}
use Rattle.std.specs.Prelude.{◌==◌, if◌then◌else◌, slice_get, IfSome, IsSomeAnd}
use Rattle.std.specs.Option.{option_map_or, option_and_then}
use Rattle.std.proofs.lemmas.Bool.{false≢true}
use Rattle.std.proofs.lemmas.List.{length-append}
use Rattle.std.proofs.lemmas.Option.{none-some}
use Rattle.journal_rules.specs.declared.entry.Entry.{Entry}
use Rattle.journal_rules.specs.declared.entry.Entry.TheVariants.{Start, End, Fault, Drop}
use Rattle.journal_rules.specs.Entries.{EachAfterThese}
use Rattle.join_words.specs.Ins.{InputValue}
use Rattle.run_frame.specs.declared.job.Answer.{Answer}
use Rattle.run_frame.specs.declared.job.Done.TheVariants.{Value}
use Rattle.run_frame.specs.declared.run.ValueRow.{ValueRow}
use Rattle.run_frame.specs.declared.run.FrameRun.{FrameRun, FrameRun', out-FrameRun}
use Rattle.run_frame.specs.Meaning.{Meaning}
use Rattle.run_frame.specs.Runs.{value_at, values_of}
use Rattle.run_frame.specs.Legal.{Legal, LegalJournal, inner_at}
use Rattle.run_frame.specs.WorkRule.{Work, WorkRule, Answers, work_at}
use Rattle.run_frame.specs.NestedRule.{NestedRule, InnerEnd, job_of, journal_of}
use Rattle.run_frame.specs.LastEnds.{ended_task, ended_at, is_end_of, last_before, last_end, last_value}
use Rattle.run_frame.proofs.EndsLemmas.{last_before_more}

-- The item at a place meets the rule after as many items.
pub met_at : {X : Type 0} (Rule : List X → X → Type 0) (before xs : List X) (n : ℕ) (x : X) → EachAfterThese Rule before xs → slice_get xs n ≡ Some x → (first : List X) × (length first ≡ length before + n) × Rule first x
met_at Rule before [] n x each is = absurd (none-some x is)
met_at Rule before (y ∷ ys) zero x each is = (before, omega arith, subst (λ z. Rule before z) (let e : y ≡ x = cc in e) each.0)
met_at Rule before (y ∷ ys) (suc n) x each is =
    let met = met_at Rule (before ++ y ∷ []) ys n x each.1 is in
    let longer : length (before ++ y ∷ []) ≡ length before + 1 = length-append before (y ∷ []) in
    (met.0, omega (arith, met.1, longer), met.2)

-- The last of a task's Ends is one.
pub last_is_end : (journal : List Entry) (t n k : ℕ) → last_before journal t n ≡ Some k → is_end_of journal t k ≡ true
last_is_end journal t zero k is = absurd (none-some k is)
last_is_end journal t (suc n) k is =
    let next : n + 1 ≡ suc n = omega arith in
    by_test (is_end_of journal t n) refl (last_before journal t n)
    (sym (last_before_more journal t n (ended_at journal n) refl) ∙ ap (last_before journal t) next ∙ is) (last_is_end journal t n k)
  where
    by_test : (hit : Bool) → is_end_of journal t n ≡ hit → (old : Option ℕ) → (if hit then Some n else old) ≡ Some k → (old ≡ Some k → is_end_of journal t k ≡ true) → is_end_of journal t k ≡ true
    by_test true hits old is inside = let same : n ≡ k = ap (λ o. option_map_or (λ place. place) o n) is in subst (λ i. is_end_of journal t i ≡ true) same hits
    by_test false hits old is inside = inside is

pub legal_journal : {J V : Type 0} (meaning : Meaning J V) (run : FrameRun J V) → Legal meaning run → LegalJournal meaning run
legal_journal meaning (FrameRun' job journal values shape rows) legal = legal.0

within : {A B : Type 0} (P : B → Type 0) (Q : A → B → Type 0) → ((a : A) (b : B) → Q a b → P b) → (o : Option A) (p : Option B) → IsSomeAnd o (λ a. IsSomeAnd p (Q a)) → IsSomeAnd p P
within P Q holds None p meets = absurd meets
within P Q holds (Some a) None meets = absurd meets
within P Q holds (Some a) (Some b) meets = holds a b meets

inside : {A B C : Type 0} (P : C → Type 0) (Q : A → B → C → Type 0) → ((a : A) (b : B) (c : C) → Q a b c → P c) → (run : Option A) (o : Option B) (p : Option C) → IsSomeAnd run (λ a. IsSomeAnd o (λ b. IsSomeAnd p (Q a b))) → IsSomeAnd p P
inside P Q holds None o p meets = absurd meets
inside P Q holds (Some a) o p meets = within P (Q a) (holds a) o p meets

module _ {J V : Type 0} (meaning : Meaning J V) (P : V → Type 0)
    (answers_hold : (job : J) (task : ℕ) (found : List (InputValue V)) (v : V) (answer : Answer) → meaning.answers job task found (Value v answer) → P v)
    (gathers_hold : (job : J) (inner : FrameRun J V) (v : V) → meaning.gathers job inner v → P v)
    (run : FrameRun J V) (legal : Legal meaning run) where
  rules : LegalJournal meaning run
  rules = legal_journal meaning run legal

  -- the value of an End is one of these
  end_value : (n start : ℕ) (gives : List ℕ) (is_inner : Bool) → slice_get (journal_of run) n ≡ Some (End start gives is_inner) → IsSomeAnd (value_at (values_of run) n) P
  end_value n start gives false at =
      let met = met_at (WorkRule meaning (job_of run) (values_of run) (inner_at run)) [] (journal_of run) n (End start gives false) rules.work at in
      subst (λ k. IsSomeAnd (value_at (values_of run) k) P) (met.1 ∙ (let plain : 0 + n ≡ n = omega arith in plain))
      (within P (λ (w : Work V) v. Answers meaning (job_of run) w v gives) (λ w v answers. answers_hold (job_of run) w.task w.found v answers.answer answers.allowed) (work_at (values_of run) met.0 start) (value_at (values_of run) (length met.0)) met.2)
  end_value n start gives true at =
      let met = met_at (NestedRule meaning (job_of run) (values_of run) (inner_at run)) [] (journal_of run) n (End start gives true) rules.nested at in
      subst (λ k. IsSomeAnd (value_at (values_of run) k) P) (met.1 ∙ (let plain : 0 + n ≡ n = omega arith in plain))
      (inside P (λ r (w : Work V) v. InnerEnd meaning (job_of run) w v gives r) (λ r w v ended. gathers_hold (job_of r) r v ended.gathered) (inner_at run (length met.0)) (work_at (values_of run) met.0 start) (value_at (values_of run) (length met.0)) met.2)

  value_at_end : (t n : ℕ) (o : Option Entry) → slice_get (journal_of run) n ≡ o → option_map_or (λ task. task == t) (option_and_then (ended_task (journal_of run)) o) false ≡ true → IsSomeAnd (value_at (values_of run) n) P
  value_at_end t n None at is = absurd (false≢true is)
  value_at_end t n (Some (Start task cause ins)) at is = absurd (false≢true is)
  value_at_end t n (Some (Fault start why)) at is = absurd (false≢true is)
  value_at_end t n (Some (Drop task cause why)) at is = absurd (false≢true is)
  value_at_end t n (Some (End start gives is_inner)) at is = end_value n start gives is_inner at

  -- A task that has an End has a last value, which is one of these.
  pub last_end_value : (t n : ℕ) → last_end (journal_of run) t ≡ Some n → IsSomeAnd (last_value (journal_of run) (values_of run) t) P
  last_end_value t n is =
      let some : IsSomeAnd (value_at (values_of run) n) P = value_at_end t n (slice_get (journal_of run) n) refl (last_is_end (journal_of run) t (length (journal_of run)) n is) in
      subst (λ o. IsSomeAnd (option_and_then (value_at (values_of run)) o) P) (sym is) some

  if_some : (o : Option V) → IsSomeAnd o P → IfSome o P
  if_some None holds = tt
  if_some (Some v) holds = holds

  by_end : (t : ℕ) (o : Option ℕ) → last_end (journal_of run) t ≡ o → IfSome (last_value (journal_of run) (values_of run) t) P
  by_end t None is = subst (λ o. IfSome (option_and_then (value_at (values_of run)) o) P) (sym is) tt
  by_end t (Some n) is = if_some (last_value (journal_of run) (values_of run) t) (last_end_value t n is)

  pub last_value_holds : (t : ℕ) → IfSome (last_value (journal_of run) (values_of run) t) P
  last_value_holds t = by_end t (last_end (journal_of run) t) refl
