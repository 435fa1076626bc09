-- What a task ended with is among its one-thread values, for an n of as many Ends as there were; and in a run
-- that is complete and fine, these values are all there are.
use Rattle.std.proofs.Common.{◌≡◌, ◌≢◌, ◌⊎◌, inl, inr, ℕ, suc, ◌+◌, ◌<◌, ◌≤◌, Bool, true, false, ◌&&◌, cond, eqb, List, [], ◌∷◌, ◌++◌, length, map, Option, Some, sym, refl, ap, ◌∙◌, subst, arith, get_or}
use Rattle.std.specs.Prelude.{slice_get, count_by}
use Rattle.std.proofs.lemmas.Bool.Decides.{nat_tests}
use Rattle.std.proofs.lemmas.Bool.{cases_eq, false≢true}
use Rattle.std.proofs.lemmas.Option.{slice_get_within, slice_get-get_or}
use Rattle.task_graph.specs.NetRows.{NetRows}
use Rattle.task_graph.specs.Net.{is_weak, strong_in}
use Rattle.journal_rules.specs.declared.entry.Entry.{Entry}
use Rattle.journal_rules.specs.declared.entry.Entry.TheVariants.{Start, End, Fault, Drop}
use Rattle.journal_rules.specs.declared.entry.Cause.{Cause}
use Rattle.journal_rules.specs.declared.entry.Cause.TheVariants.{Source, Strong, Weak}
use Rattle.journal_rules.specs.Counts.{used_source, uses, is_source, start_at}
use Rattle.journal_rules.specs.ReleaseRule.{IsReleased}
use Rattle.journal_rules.specs.Entries.{EachAfter}
use Rattle.journal_rules.proofs.Snoc.{count_by_push}
use Rattle.journal_rules.proofs.Tallying.{count_by_push_no, count_by_push_yes}
use Rattle.join_words.specs.Ins.{InputValue}
use Rattle.run_frame.specs.declared.run.ValueRow.{ValueRow}
use Rattle.run_laws.specs.OneThreadValue.{TaskEnd, OneAnswer, tokens, source_of, rounds_of, one_thread_value}
use Rattle.run_laws.specs.Ends.{end_of, ends}
use Rattle.run_laws.proofs.Along.{along}
use Rattle.run_laws.proofs.Lists.{zip_weaken}
use Rattle.run_laws.proofs.Phases.{Phase, begins, stops_one, ends_few}
use Rattle.run_laws.proofs.Steps.{StepAt, start_of, starts_in, ends_in, tokens_in}
use Rattle.run_laws.proofs.Values.{Kept, Ran, kept_step, ends_same, starts_same}
use Rattle.run_laws.proofs.Agreement.{Answered}
use Rattle.run_laws.proofs.Legally.{Given, Known, kept_all, Placed, placed_step}
use Rattle.run_laws.proofs.Fronts.{front_get, front_through, front_tokens, rounds_have, front_answered, values_later}
use Rattle.run_laws.specs.Prefixes.{IsPrefixOf}

abbrev pub is_end : Entry → Bool
is_end (Start task cause ins) = false
is_end (End start gives inner) = true
is_end (Fault start why) = false
is_end (Drop task cause why) = false

-- a source task has one Start at most, and one where its release was used and not dropped
pub record Sourced (at : ℕ → Option ℕ) (t : ℕ) (b : List Entry) : Type 0 where
  pub once : used_source t b ≤ 1
  pub begun : count_by (begins t) b ≤ used_source t b
  pub not_dropped : count_by (stops_one at t) b ≡ 0 → count_by (begins t) b ≡ used_source t b

pub record Reach {V : Type 0} (net : NetRows) (one : OneAnswer V) (values : List (ValueRow V)) (at : ℕ → Option ℕ) (b : List Entry) : Type 0 where
  pub sources : (t : ℕ) → strong_in net t ≡ [] → Sourced at t b
  pub reached : (t : ℕ) → IsPrefixOf (ends_in values at t b) (one_thread_value net one (count_by is_end b) t)

sourced_step : {V : Type 0} (net : NetRows) (one : OneAnswer V) (values : List (ValueRow V)) (at : ℕ → Option ℕ) (t : ℕ) (b : List Entry) (x : Entry) → ((e : ℕ) → is_weak net e ≡ false) → StepAt net one values at b x → strong_in net t ≡ [] → Sourced at t b → Sourced at t (b ++ x ∷ [])
sourced_step net one values at t b (Start task cause ins) strong step none s = by_task (cases_eq task t)
  where
    x : Entry
    x = Start task cause ins

    same_stops : count_by (stops_one at t) (b ++ x ∷ []) ≡ count_by (stops_one at t) b
    same_stops = count_by_push_no (stops_one at t) b x refl

    by_cause : (c : Cause) → IsReleased net b t c → (is_source c ≡ true) × (used_source t b ≡ 0)
    by_cause Source r = (refl, r.1)
    by_cause Strong r = absurd (r.0 none)
    by_cause (Weak e) r = absurd (false≢true (sym (strong e) ∙ r.0))

    by_task : (task ≡ t) ⊎ (task ≢ t) → Sourced at t (b ++ x ∷ [])
    by_task (inl same) =
        let how : (is_source cause ≡ true) × (used_source t b ≡ 0) = by_cause cause (subst (λ r. IsReleased net b r cause) same step.release) in
        let hit : eqb task t ≡ true = grind (arith, nat_tests) in
        let uses_it : uses is_source t x ≡ true = ap (λ h. h && is_source cause) hit ∙ how.0 in
        let one_more : used_source t (b ++ x ∷ []) ≡ used_source t b + 1 = count_by_push_yes (uses is_source t) b x uses_it in
        let begun_more : count_by (begins t) (b ++ x ∷ []) ≡ count_by (begins t) b + 1 = count_by_push_yes (begins t) b x hit in
        record { once = omega (arith, how.1); begun = omega (arith, s.begun); not_dropped = λ unstopped. omega (arith, s.not_dropped (sym same_stops ∙ unstopped)) }
    by_task (inr other) =
        let miss : eqb task t ≡ false = grind (arith, nat_tests) in
        let same_use : used_source t (b ++ x ∷ []) ≡ used_source t b = count_by_push_no (uses is_source t) b x (ap (λ h. h && is_source cause) miss) in
        let same_begun : count_by (begins t) (b ++ x ∷ []) ≡ count_by (begins t) b = count_by_push_no (begins t) b x miss in
        record { once = omega (arith, s.once); begun = omega (arith, s.begun); not_dropped = λ unstopped. omega (arith, s.not_dropped (sym same_stops ∙ unstopped)) }
sourced_step net one values at t b (End start gives inner) strong step none s =
    let x : Entry = End start gives inner in
    record {
      once = omega (arith, s.once, count_by_push_no (uses is_source t) b x refl);
      begun = omega (arith, s.begun, count_by_push_no (uses is_source t) b x refl, count_by_push_no (begins t) b x refl);
      not_dropped = λ unstopped. omega (arith, s.not_dropped (sym (count_by_push_no (stops_one at t) b x refl) ∙ unstopped), count_by_push_no (uses is_source t) b x refl, count_by_push_no (begins t) b x refl);
    }
sourced_step net one values at t b (Fault start why) strong step none s =
    let x : Entry = Fault start why in
    record {
      once = omega (arith, s.once, count_by_push_no (uses is_source t) b x refl);
      begun = omega (arith, s.begun, count_by_push_no (uses is_source t) b x refl, count_by_push_no (begins t) b x refl);
      not_dropped = λ unstopped. omega (arith, s.not_dropped (omega (arith, count_by_push (stops_one at t) b x, unstopped)), count_by_push_no (uses is_source t) b x refl, count_by_push_no (begins t) b x refl);
    }
sourced_step net one values at t b (Drop task cause why) strong step none s = by_task (cases_eq task t)
  where
    x : Entry
    x = Drop task cause why

    by_cause : (c : Cause) → IsReleased net b t c → used_source t b ≡ 0
    by_cause Source r = r.1
    by_cause Strong r = absurd (r.0 none)
    by_cause (Weak e) r = absurd (false≢true (sym (strong e) ∙ r.0))

    one_most : (c : Bool) → cond c 1 0 ≤ 1
    one_most true = omega arith
    one_most false = omega arith

    by_task : (task ≡ t) ⊎ (task ≢ t) → Sourced at t (b ++ x ∷ [])
    by_task (inl same) =
        let unused : used_source t b ≡ 0 = by_cause cause (subst (λ r. IsReleased net b r cause) same step.release) in
        let hit : eqb task t ≡ true = grind (arith, nat_tests) in
        record {
          once = omega (arith, unused, count_by_push (uses is_source t) b x, one_most (uses is_source t x));
          begun = omega (arith, s.begun, count_by_push (uses is_source t) b x, count_by_push_no (begins t) b x refl);
          not_dropped = λ unstopped. absurd (omega (arith, unstopped, count_by_push_yes (stops_one at t) b x hit));
        }
    by_task (inr other) =
        let miss : eqb task t ≡ false = grind (arith, nat_tests) in
        let same_use : used_source t (b ++ x ∷ []) ≡ used_source t b = count_by_push_no (uses is_source t) b x (ap (λ h. h && is_source cause) miss) in
        record {
          once = omega (arith, s.once);
          begun = omega (arith, s.begun, count_by_push_no (begins t) b x refl);
          not_dropped = λ unstopped. omega (arith, s.not_dropped (omega (arith, count_by_push (stops_one at t) b x, unstopped)), count_by_push_no (begins t) b x refl);
        }

-- each end is one on what a Start found
pub answered_in : {V : Type 0} (net : NetRows) (one : OneAnswer V) (values : List (ValueRow V)) (at : ℕ → Option ℕ) (b : List Entry) (t : ℕ) → Kept net one values at b → Phase at t b → (k : ℕ) (u : TaskEnd V) → slice_get (ends_in values at t b) k ≡ Some u → Answered (one t) (starts_in values t b) k u
answered_in net one values at b t kept phase k u at_k =
    let ran : Ran net one values at t b (starts_in values t b) (ends_in values at t b) = kept.ran t in
    let below : k < length (starts_in values t b) = omega (arith, slice_get_within _ k u at_k, ran.ended, ran.begun, ends_few at t b phase) in
    let at_start = slice_get-get_or (starts_in values t b) k [] below in
    record { item = get_or (starts_in values t b) k []; at_item = at_start; is = ran.answered k _ u at_start at_k }

-- what is kept of the ends, by one more End
reach_end : {V : Type 0} (net : NetRows) (one : OneAnswer V) (values : List (ValueRow V)) (at : ℕ → Option ℕ) (b : List Entry) (x : Entry) → ((e : ℕ) → is_weak net e ≡ false) → StepAt net one values at b x → Kept net one values at b → Reach net one values at b
    → ((t : ℕ) → Sourced at t (b ++ x ∷ []) → strong_in net t ≡ [] → length (starts_in values t b) ≤ 1)
    → ((t : ℕ) → start_of values t (length b) x ≡ []) → Placed at (b ++ x ∷ []) → (t : ℕ) → IsPrefixOf (ends_in values at t (b ++ x ∷ [])) (one_thread_value net one (suc (count_by is_end b)) t)
reach_end {V} net one values at b x strong step kept reach few no_start placed t = front_answered (one t) (ends_in values at t (b ++ x ∷ [])) _ each
  where
    n : ℕ
    n = count_by is_end b

    parts : ℕ → List (InputValue V)
    parts e = tokens net e (one_thread_value net one n (source_of net e))

    now : Kept net one values at (b ++ x ∷ [])
    now = kept_step net one values at strong b x step kept

    each : (k : ℕ) (u : TaskEnd V) → slice_get (ends_in values at t (b ++ x ∷ [])) k ≡ Some u → Answered (one t) (rounds_of (map parts (strong_in net t))) k u
    each k u at_u =
        let a : Answered (one t) (starts_in values t (b ++ x ∷ [])) k u = answered_in net one values at (b ++ x ∷ []) t now (placed.phases t) k u at_u in
        let before : slice_get (starts_in values t b) k ≡ Some a.item = sym (ap (λ ss. slice_get ss k) (starts_same values t b x (no_start t))) ∙ a.at_item in
        record {
          item = a.item;
          at_item = rounds_have parts (strong_in net t) k a.item
              (λ none. omega (arith, slice_get_within _ k a.item before, few t (sourced_step net one values at t b x strong step none (reach.sources t none)) none))
              (zip_weaken (λ e f. slice_get (tokens_in net values at e b) k ≡ Some f) (λ e f. slice_get (parts e) k ≡ Some f)
              (λ e f at_e. front_get (tokens_in net values at e b) (parts e) (front_tokens net e _ _ (reach.reached (source_of net e))) k f at_e) (strong_in net t) a.item (kept.finds t k a.item before));
          is = a.is;
        }

reach_step : {V : Type 0} (net : NetRows) (one : OneAnswer V) (values : List (ValueRow V)) (at : ℕ → Option ℕ) (b : List Entry) (x : Entry) → ((e : ℕ) → is_weak net e ≡ false) → StepAt net one values at b x → Kept net one values at b → Reach net one values at b → Reach net one values at (b ++ x ∷ [])
reach_step {V} net one values at b x strong step kept reach = record {
  sources = λ t none. sourced_step net one values at t b x strong step none (reach.sources t none);
  reached = by_entry x step;
}
  where
    still : (y : Entry) → is_end y ≡ false → ((t : ℕ) → end_of values at t (length b) y ≡ []) → (t : ℕ) → IsPrefixOf (ends_in values at t (b ++ y ∷ [])) (one_thread_value net one (count_by is_end (b ++ y ∷ [])) t)
    still y no_end none t =
        subst (λ us. IsPrefixOf us (one_thread_value net one (count_by is_end (b ++ y ∷ [])) t)) (sym (ends_same values at t b y (none t)))
        (subst (λ n. IsPrefixOf (ends_in values at t b) (one_thread_value net one n t)) (sym (count_by_push_no is_end b y no_end)) (reach.reached t))

    by_entry : (y : Entry) → StepAt net one values at b y → (t : ℕ) → IsPrefixOf (ends_in values at t (b ++ y ∷ [])) (one_thread_value net one (count_by is_end (b ++ y ∷ [])) t)
    by_entry (Start task cause ins) s = still (Start task cause ins) refl (λ t. refl)
    by_entry (Fault start why) s = still (Fault start why) refl (λ t. refl)
    by_entry (Drop task cause why) s = still (Drop task cause why) refl (λ t. refl)
    by_entry (End start gives inner) s = λ t.
        let more : suc (count_by is_end b) ≡ count_by is_end (b ++ End start gives inner ∷ []) = omega (arith, count_by_push_yes is_end b (End start gives inner) refl) in
        subst (λ n. IsPrefixOf (ends_in values at t (b ++ End start gives inner ∷ [])) (one_thread_value net one n t)) more
        (reach_end net one values at b (End start gives inner) strong s kept reach
        (λ r sourced none. omega (arith, (kept.ran r).begun, (reach.sources r none).begun, (reach.sources r none).once)) (λ r. refl)
        (placed_step at b (End start gives inner) s.told s.closing s.start (record { behind = s.behind; phases = s.phases })) t)

reach_first : {V : Type 0} (net : NetRows) (one : OneAnswer V) (values : List (ValueRow V)) (at : ℕ → Option ℕ) → Reach net one values at []
reach_first net one values at = record { sources = λ t none. record { once = omega arith; begun = omega arith; not_dropped = λ unstopped. refl }; reached = λ t. tt }

pub reach_along : {V : Type 0} (net : NetRows) (limit : ℕ) (one : OneAnswer V) (values : List (ValueRow V)) (h : List Entry) → Given net limit one values h
    → EachAfter (λ b x. Reach net one values (start_at h) b × (Kept net one values (start_at h) b × Known net one values h b x)) h × Reach net one values (start_at h) h
reach_along net limit one values h is =
    along (λ b x. Kept net one values (start_at h) b × Known net one values h b x) (Reach net one values (start_at h)) (λ b x rule reach. reach_step net one values (start_at h) b x is.strong rule.1 rule.0 reach) [] h (reach_first net one values (start_at h))
    (kept_all net limit one values h is).0

pub reach_all : {V : Type 0} (net : NetRows) (limit : ℕ) (one : OneAnswer V) (values : List (ValueRow V)) (h : List Entry) → Given net limit one values h → Reach net one values (start_at h) h
reach_all net limit one values h is = (reach_along net limit one values h is).1

-- The ends of each task are a front of its one-thread values for each n that isn't below the number of Ends.
pub ends_reached : {V : Type 0} (net : NetRows) (limit : ℕ) (one : OneAnswer V) (values : List (ValueRow V)) (h : List Entry) → Given net limit one values h → (m t : ℕ) → IsPrefixOf (ends values h t) (one_thread_value net one (m + count_by is_end h) t)
ends_reached net limit one values h is m t =
    front_through _ (one_thread_value net one (count_by is_end h) t) _ ((reach_all net limit one values h is).reached t) (values_later net one (count_by is_end h) m t)
