-- The last value of a task in a legal run is that of the last of its ends.
use Rattle.std.proofs.Common.{◌≡◌, ℕ, zero, suc, ◌+◌, ◌<◌, Bool, true, false, cond, List, [], ◌∷◌, ◌++◌, length, map, Option, Some, None, sym, refl, ap, ◌∙◌, subst, arith}
use Rattle.std.specs.Prelude.{◌==◌, if◌then◌else◌, filter, slice_get, IsSome, IsSomeAnd}
use Rattle.std.specs.List.{flat_map, last_or, range_with_len}
use Rattle.std.specs.Option.{option_map_or, option_and_then}
use Rattle.std.proofs.lemmas.Bool.{false≢true}
use Rattle.std.proofs.lemmas.List.{length-append}
use Rattle.std.proofs.lemmas.Option.{none-some}
use Rattle.journal_rules.specs.declared.entry.Entry.{Entry}
use Rattle.journal_rules.specs.declared.entry.Entry.TheVariants.{Start, End, Fault, Drop}
use Rattle.journal_rules.specs.Counts.{start_at}
use Rattle.journal_rules.specs.Entries.{EachAfterThese}
use Rattle.run_frame.specs.declared.run.ValueRow.{ValueRow}
use Rattle.run_frame.specs.declared.run.FrameRun.{FrameRun, out-FrameRun}
use Rattle.run_frame.specs.Meaning.{Meaning}
use Rattle.run_frame.specs.Runs.{value_at, values_of}
use Rattle.run_frame.specs.Legal.{Legal, LegalJournal, inner_at}
use Rattle.run_frame.specs.WorkRule.{WorkRule, Answers, work_at}
use Rattle.run_frame.specs.NestedRule.{NestedRule, InnerEnd, job_of, journal_of}
use Rattle.run_frame.specs.LastEnds.{ended_task, ended_at, is_end_of, last_before, last_end, last_value}
use Rattle.run_frame.proofs.EndsLemmas.{last_before_more}
use Rattle.run_laws.specs.OneThreadValue.{TaskEnd}
use Rattle.run_laws.specs.Ends.{gather, end_of, ends, is_task}
use Rattle.run_laws.proofs.Runs.{legal_journal}
use Rattle.run_laws.specs.PlainJobs.{last_of}

-- ---- lists by number

-- what is the same at each of n numbers from a on
pub map_below : {A : Type 0} (f g : ℕ → A) (a n : ℕ) → ((t : ℕ) → t < a + n → f t ≡ g t) → map f (range_with_len a n) ≡ map g (range_with_len a n)
map_below f g a zero same = refl
map_below f g a (suc n) same =
    let head : f a ≡ g a = same a (omega arith) in
    let tail : map f (range_with_len (a + 1) n) ≡ map g (range_with_len (a + 1) n) = map_below f g (a + 1) n (λ t below. same t (omega arith)) in
    ap (λ x. x ∷ map f (range_with_len (a + 1) n)) head ∙ ap (λ xs. g a ∷ xs) tail

pub flat_map_below : {A : Type 0} (f g : ℕ → List A) (a n : ℕ) → ((t : ℕ) → t < a + n → f t ≡ g t) → flat_map f (range_with_len a n) ≡ flat_map g (range_with_len a n)
flat_map_below f g a zero same = refl
flat_map_below f g a (suc n) same =
    let head : f a ≡ g a = same a (omega arith) in
    let tail : flat_map f (range_with_len (a + 1) n) ≡ flat_map g (range_with_len (a + 1) n) = flat_map_below f g (a + 1) n (λ t below. same t (omega arith)) in
    ap (λ xs. xs ++ flat_map f (range_with_len (a + 1) n)) head ∙ ap (λ ys. g a ++ ys) tail

-- ---- each End of a legal run has a value

-- The item at a place meets the rule after as many items.
pub met_at : {X : Type 0} (Rule : List X → X → Type 0) (before xs : List X) (n : ℕ) (x : X) → EachAfterThese Rule before xs → slice_get xs n ≡ Some x → (first : List X) × (length first ≡ length before + n) × Rule first x
met_at Rule before [] n x each is = absurd (none-some x is)
met_at Rule before (y ∷ ys) zero x each is = (before, omega arith, subst (λ z. Rule before z) (let e : y ≡ x = cc in e) each.0)
met_at Rule before (y ∷ ys) (suc n) x each is =
    let met = met_at Rule (before ++ y ∷ []) ys n x each.1 is in
    let longer : length (before ++ y ∷ []) ≡ length before + 1 = length-append before (y ∷ []) in
    (met.0, omega (arith, met.1, longer), met.2)

some_of : {A : Type 0} (P : A → Type 0) (o : Option A) → IsSomeAnd o P → IsSome o
some_of P None meets = absurd meets
some_of P (Some x) meets = refl

some_within : {A B : Type 0} (P : A → B → Type 0) (o : Option A) (p : Option B) → IsSomeAnd o (λ a. IsSomeAnd p (P a)) → IsSome p
some_within P None p meets = absurd meets
some_within P (Some a) p meets = some_of (P a) p meets

some_inside : {A B C : Type 0} (P : A → B → C → Type 0) (run : Option A) (o : Option B) (p : Option C) → IsSomeAnd run (λ a. IsSomeAnd o (λ b. IsSomeAnd p (P a b))) → IsSome p
some_inside P None o p meets = absurd meets
some_inside P (Some a) o p meets = some_within (P a) o p meets

module _ {J V : Type 0} (meaning : Meaning J V) (run : FrameRun J V) (legal : Legal meaning run) where
  abbrev journal : List Entry
  journal = journal_of run

  abbrev values : List (ValueRow V)
  values = (out-FrameRun J V run).values

  rules : LegalJournal meaning run
  rules = legal_journal meaning run legal

  end_has_value : (n start : ℕ) (gives : List ℕ) (inner : Bool) → slice_get journal n ≡ Some (End start gives inner) → IsSome (value_at values n)
  end_has_value n start gives false at =
      let met = met_at (WorkRule meaning (job_of run) values (inner_at run)) [] journal n (End start gives false) rules.work at in
      subst (λ k. IsSome (value_at values k)) (met.1 ∙ (let plain : 0 + n ≡ n = omega arith in plain))
      (some_within (λ w v. Answers meaning (job_of run) w v gives) (work_at values met.0 start) (value_at values (length met.0)) met.2)
  end_has_value n start gives true at =
      let met = met_at (NestedRule meaning (job_of run) values (inner_at run)) [] journal n (End start gives true) rules.nested at in
      subst (λ k. IsSome (value_at values k)) (met.1 ∙ (let plain : 0 + n ≡ n = omega arith in plain))
      (some_inside (λ r w v. InnerEnd meaning (job_of run) w v gives r) (inner_at run (length met.0)) (work_at values met.0 start) (value_at values (length met.0)) met.2)

-- The last of a task's Ends is one.
last_is_end : (journal : List Entry) (t n k : ℕ) → last_before journal t n ≡ Some k → is_end_of journal t k ≡ true
last_is_end journal t zero k is = absurd (none-some k is)
last_is_end journal t (suc n) k is =
    let next : n + 1 ≡ suc n = omega arith in
    by_test (is_end_of journal t n) refl (last_before journal t n)
    (sym (last_before_more journal t n (ended_at journal n) refl) ∙ ap (last_before journal t) next ∙ is) (last_is_end journal t n k)
  where
    by_test : (hit : Bool) → is_end_of journal t n ≡ hit → (old : Option ℕ) → (if hit then Some n else old) ≡ Some k → (old ≡ Some k → is_end_of journal t k ≡ true) → is_end_of journal t k ≡ true
    by_test true hits old is inside = let same : n ≡ k = ap (λ o. option_map_or (λ place. place) o n) is in subst (λ i. is_end_of journal t i ≡ true) same hits
    by_test false hits old is inside = inside is

module _ {J V : Type 0} (meaning : Meaning J V) (run : FrameRun J V) (legal : Legal meaning run) (t n : ℕ) where
  value_at_end : (o : Option Entry) → slice_get (journal_of run) n ≡ o → option_map_or (λ task. task == t) (option_and_then (ended_task (journal_of run)) o) false ≡ true → IsSome (value_at (values_of run) n)
  value_at_end None at is = absurd (false≢true is)
  value_at_end (Some (Start task cause ins)) at is = absurd (false≢true is)
  value_at_end (Some (Fault start why)) at is = absurd (false≢true is)
  value_at_end (Some (Drop task cause why)) at is = absurd (false≢true is)
  value_at_end (Some (End start gives inner)) at is = end_has_value meaning run legal n start gives inner at

  -- So a task of a legal run that has an End has a last value.
  pub ended_is_told : last_end (journal_of run) t ≡ Some n → IsSome (last_value (journal_of run) (values_of run) t)
  ended_is_told is =
      let some : IsSome (value_at (values_of run) n) = value_at_end (slice_get (journal_of run) n) refl (last_is_end (journal_of run) t (length (journal_of run)) n is) in
      subst (λ o. IsSome (option_and_then (value_at (values_of run)) o)) (sym is) some

-- ---- the last value and the last end

module _ {V : Type 0} (values : List (ValueRow V)) (journal : List Entry) (t : ℕ) where
  abbrev the_value : TaskEnd V → V
  the_value e = e.value

  -- what a place adds
  abbrev at_place : ℕ → Entry → List (TaskEnd V)
  at_place n x = end_of values (start_at journal) t n x

  -- the entries from a place on
  last_same : (rest : List Entry) (n : ℕ) (so_far : Option ℕ) → ((k : ℕ) → slice_get journal (n + k) ≡ slice_get rest k)
      → ((m start : ℕ) (gives : List ℕ) (inner : Bool) → slice_get journal m ≡ Some (End start gives inner) → IsSome (value_at values m))
      → option_and_then (value_at values) (last_or so_far (filter (is_end_of journal t) (range_with_len n (length rest)))) ≡ last_or (option_and_then (value_at values) so_far) (map the_value (gather at_place n rest))
  last_same [] n so_far at has = refl
  last_same (x ∷ rest) n so_far at has = by_entry (λ o. last_same rest (n + 1) o next has) x (let same : n + 0 ≡ n = omega arith in ap (slice_get journal) (sym same) ∙ at 0)
    where
      next : (k : ℕ) → slice_get journal ((n + 1) + k) ≡ slice_get rest k
      next k = let same : (n + 1) + k ≡ n + suc k = omega arith in ap (slice_get journal) same ∙ at (suc k)

      More : Type 0
      More = (o : Option ℕ) → option_and_then (value_at values) (last_or o (filter (is_end_of journal t) (range_with_len (n + 1) (length rest)))) ≡ last_or (option_and_then (value_at values) o) (map the_value (gather at_place (n + 1) rest))

      step : suc n ≡ n + 1
      step = omega arith

      Claim : Bool → List (TaskEnd V) → Type 0
      Claim hit new =
          option_and_then (value_at values) (last_or so_far (cond hit (n ∷ filter (is_end_of journal t) (range_with_len (n + 1) (length rest))) (filter (is_end_of journal t) (range_with_len (n + 1) (length rest)))))
          ≡ last_or (option_and_then (value_at values) so_far) (map the_value (new ++ gather at_place (suc n) rest))

      -- an entry that is no End of the task adds nothing
      none_new : More → (hit : Bool) (new : List (TaskEnd V)) → hit ≡ false → new ≡ [] → Claim hit new
      none_new more hit new miss nothing =
          subst (λ b. Claim b new) (sym miss) (subst (λ es. Claim false es) (sym nothing)
          (more so_far ∙ ap (λ m. last_or (option_and_then (value_at values) so_far) (map the_value (gather at_place m rest))) (sym step)))

      -- one that is adds its value
      one_new : More → (v : V) (e : TaskEnd V) → e.value ≡ v → value_at values n ≡ Some v → Claim true (e ∷ [])
      one_new more v e is value_is =
          more (Some n)
          ∙ ap (λ m. last_or (value_at values n) (map the_value (gather at_place m rest))) (sym step)
          ∙ ap (λ o. last_or o (map the_value (gather at_place (suc n) rest))) (value_is ∙ ap Some (sym is))

      hits : Option Entry → Bool
      hits o = option_map_or (λ task. task == t) (option_and_then (ended_task journal) o) false

      by_value : More → (start : ℕ) (gives : List ℕ) (o : Option V) → value_at values n ≡ o → IsSome o → (b : Bool)
          → Claim b (elim o [ None ↦ [] | Some v ↦ cond b ((record { value = v; gives = gives }) ∷ []) [] ])
      by_value more start gives None is some b = absurd (false≢true some)
      by_value more start gives (Some v) is some true = one_new more v (record { value = v; gives = gives }) refl is
      by_value more start gives (Some v) is some false = none_new more false [] refl refl

      by_entry : More → (y : Entry) → slice_get journal n ≡ Some y → Claim (is_end_of journal t n) (at_place n y)
      by_entry more (Start task cause ins) is = none_new more _ _ (ap (λ o. option_map_or (λ task. task == t) (option_and_then (ended_task journal) o) false) is) refl
      by_entry more (Fault start why) is = none_new more _ _ (ap (λ o. option_map_or (λ task. task == t) (option_and_then (ended_task journal) o) false) is) refl
      by_entry more (Drop task cause why) is = none_new more _ _ (ap (λ o. option_map_or (λ task. task == t) (option_and_then (ended_task journal) o) false) is) refl
      by_entry more (End start gives inner) is =
          subst (λ b. Claim b (at_place n (End start gives inner))) (sym (ap (λ o. option_map_or (λ task. task == t) (option_and_then (ended_task journal) o) false) is))
          (by_value more start gives (value_at values n) refl (has n start gives inner is) (is_task t (start_at journal start)))

-- the value of a task's last End is that of the last of its ends
pub last_value_same : {J V : Type 0} (meaning : Meaning J V) (run : FrameRun J V) → Legal meaning run → (t : ℕ)
    → last_value (journal_of run) (values_of run) t ≡ last_of (ends (values_of run) (journal_of run) t)
last_value_same {J} {V} meaning run legal t =
    last_same (values_of run) (journal_of run) t (journal_of run) 0 None (λ k. let same : 0 + k ≡ k = omega arith in ap (slice_get (journal_of run)) same) (end_has_value meaning run legal)
