-- A Fault of a run, but one of a unit, is a fault of a round of the one-thread values.
use Rattle.std.proofs.Common.{◌≡◌, ℕ, suc, ◌<◌, ◌≤◌, Bool, true, false, eqb, List, [], ◌∷◌, ◌++◌, length, Option, Some, None, sym, refl, ap, ◌∙◌, subst, arith}
use Rattle.std.specs.Prelude.{slice_get, count_by, IsSomeAnd, is_some}
use Rattle.std.proofs.lemmas.Option.{slice_get_within}
use Rattle.std.proofs.lemmas.Bool.{false≢true}
use Rattle.std.proofs.lemmas.Bool.Decides.{nat_tests}
use Rattle.task_graph.specs.NetRows.{NetRows}
use Rattle.task_graph.specs.Net.{strong_in}
use Rattle.journal_rules.specs.declared.entry.Why.{Why}
use Rattle.journal_rules.specs.declared.entry.Why.TheVariants.{Long, Wide, Unmet, Inner, OverRelease}
use Rattle.journal_rules.specs.declared.entry.Entry.{Entry}
use Rattle.journal_rules.specs.declared.entry.Entry.TheVariants.{Start, End, Fault, Drop}
use Rattle.journal_rules.specs.Counts.{start_at, is_open}
use Rattle.join_words.specs.Ins.{InputValue}
use Rattle.journal_rules.specs.Entries.{EachAfter}
use Rattle.journal_rules.proofs.Reaching.{open_stands}
use Rattle.journal_rules.proofs.Tallying.{count_by_push_no, count_by_push_yes}
use Rattle.run_frame.specs.declared.run.ValueRow.{ValueRow}
use Rattle.run_frame.specs.WorkRule.{Work, work_at}
use Rattle.run_laws.specs.Starts.{HasFault}
use Rattle.run_laws.specs.OneThreadValue.{OneAnswer, tokens, source_of, one_thread_value}
use Rattle.run_laws.specs.Ends.{is_task}
use Rattle.run_laws.proofs.Along.{along, both, told_before}
use Rattle.run_laws.proofs.Lists.{zip_weaken}
use Rattle.run_laws.proofs.Phases.{and_both, and_left}
use Rattle.run_laws.proofs.Steps.{starts_in, ends_in, tokens_in}
use Rattle.run_laws.proofs.Values.{Kept, Ran}
use Rattle.run_laws.proofs.Legally.{Given, Known}
use Rattle.run_laws.proofs.Fronts.{front_get, front_tokens, rounds_have, rounds_parts, only_round, values_more}
use Rattle.run_laws.proofs.Reaches.{is_end, Reach, reach_along}
use Rattle.run_laws.proofs.Tasks.{in_tasks, start_in}

-- whether an entry is a Fault that doesn't tell of a unit
abbrev pub own_why : Why → Bool
own_why (Long n) = true
own_why (Wide n) = true
own_why (Unmet k) = true
own_why Inner = true
own_why (OverRelease s) = false

abbrev pub is_own_fault : Entry → Bool
is_own_fault (Start task cause ins) = false
is_own_fault (End start gives inner) = false
is_own_fault (Fault start why) = own_why why
is_own_fault (Drop task cause why) = false

-- such a Fault stands where the one answer is none
abbrev pub IsOneFault : {V : Type 0} → OneAnswer V → List (ValueRow V) → List Entry → Entry → Type 0
IsOneFault one values b (Start task cause ins) = Unit {0}
IsOneFault one values b (End start gives inner) = Unit {0}
IsOneFault one values b (Fault start why) = own_why why ≡ true → IsSomeAnd (work_at values b start) (λ work. one work.task work.found ≡ None)
IsOneFault one values b (Drop task cause why) = Unit {0}

pub fault_later : {V : Type 0} (net : NetRows) (one : OneAnswer V) (n : ℕ) → HasFault net one n → HasFault net one (suc n)
fault_later {V} net one n f = record {
  task = f.task;
  in_net = f.in_net;
  place = f.place;
  round = f.round;
  at_place = rounds_have now (strong_in net f.task) f.place f.round (only_round before (strong_in net f.task) f.place f.round f.at_place)
      (zip_weaken (λ e x. slice_get (before e) f.place ≡ Some x) (λ e x. slice_get (now e) f.place ≡ Some x)
      (λ e x at_e. front_get (before e) (now e) (front_tokens net e _ _ (values_more net one n (source_of net e))) f.place x at_e) (strong_in net f.task) f.round
      (rounds_parts before (strong_in net f.task) f.place f.round f.at_place));
  faults = f.faults;
}
  where
    before : ℕ → List (InputValue V)
    before e = tokens net e (one_thread_value net one n (source_of net e))

    now : ℕ → List (InputValue V)
    now e = tokens net e (one_thread_value net one (suc n) (source_of net e))

-- a Fault of an open Start
fault_here : {V : Type 0} (net : NetRows) (one : OneAnswer V) (values : List (ValueRow V)) (at : ℕ → Option ℕ) (b : List Entry) (start : ℕ) → Kept net one values at b → Reach net one values at b → is_open b start ≡ true → ((t : ℕ) → start_at b start ≡ Some t → t < length net.tasks)
    → IsSomeAnd (work_at values b start) (λ work. one work.task work.found ≡ None) → HasFault net one (count_by is_end b)
fault_here {V} net one values at b start kept reach opened in_range fault = by_task (start_at b start) refl (work_at values b start) refl fault
  where
    parts : ℕ → List (InputValue V)
    parts e = tokens net e (one_thread_value net one (count_by is_end b) (source_of net e))

    here : (t : ℕ) → start_at b start ≡ Some t → (work : Work V) → work_at values b start ≡ Some work → one work.task work.found ≡ None → HasFault net one (count_by is_end b)
    here t is_t work is_work none =
        let ran : Ran net one values at t b (starts_in values t b) (ends_in values at t b) = kept.ran t in
        let hit : eqb t t ≡ true = grind (arith, nat_tests) in
        let was = ran.opened start work (and_both _ _ (ap (is_task t) is_t ∙ hit) opened) is_work in
        let k : ℕ = length (ends_in values at t b) in
        record {
          task = t;
          in_net = in_range t is_t;
          place = k;
          round = work.found;
          at_place = rounds_have parts (strong_in net t) k work.found
              (λ no_edges. omega (arith, slice_get_within _ k work.found was.1, ran.begun, (reach.sources t no_edges).begun, (reach.sources t no_edges).once))
              (zip_weaken (λ e f. slice_get (tokens_in net values at e b) k ≡ Some f) (λ e f. slice_get (parts e) k ≡ Some f)
              (λ e f at_e. front_get (tokens_in net values at e b) (parts e) (front_tokens net e _ _ (reach.reached (source_of net e))) k f at_e) (strong_in net t) work.found (kept.finds t k work.found was.1));
          faults = ap (λ s. one s work.found) (sym was.0) ∙ none;
        }

    by_task : (o : Option ℕ) → start_at b start ≡ o → (w : Option (Work V)) → work_at values b start ≡ w → IsSomeAnd w (λ work. one work.task work.found ≡ None) → HasFault net one (count_by is_end b)
    by_task None is_none w is_w f = let no_start : is_some (start_at b start) ≡ false = ap is_some is_none in absurd (false≢true (sym no_start ∙ and_left _ _ opened))
    by_task (Some t) is_t None is_w f = absurd f
    by_task (Some t) is_t (Some work) is_w f = here t is_t work is_w f

-- such a Fault shows a fault of the one-thread values
pub fault_shown : {V : Type 0} (net : NetRows) (limit : ℕ) (one : OneAnswer V) (values : List (ValueRow V)) (h : List Entry) → Given net limit one values h → EachAfter (IsOneFault one values) h
    → 1 ≤ count_by is_own_fault h → HasFault net one (count_by is_end h)
fault_shown {V} net limit one values h is one_faults =
    (along Rule Shown step [] h (λ none. absurd (omega arith)) (both _ _ [] h (reach_along net limit one values h is).0 one_faults)).1
  where
    Rule : List Entry → Entry → Type 0
    Rule b x = (Reach net one values (start_at h) b × (Kept net one values (start_at h) b × Known net one values h b x)) × IsOneFault one values b x

    Shown : List Entry → Type 0
    Shown b = 1 ≤ count_by is_own_fault b → HasFault net one (count_by is_end b)

    same : (b : List Entry) (x : Entry) → is_own_fault x ≡ false → is_end x ≡ false → Shown b → Shown (b ++ x ∷ [])
    same b x no_fault no_end shown some =
        subst (λ n. HasFault net one n) (sym (count_by_push_no is_end b x no_end)) (shown (omega (arith, some, count_by_push_no is_own_fault b x no_fault)))

    step : (b : List Entry) (x : Entry) → Rule b x → Shown b → Shown (b ++ x ∷ [])
    step b (Start task cause ins) rule shown = same b (Start task cause ins) refl refl shown
    step b (Drop task cause why) rule shown = same b (Drop task cause why) refl refl shown
    step b (End start gives inner) rule shown = λ some.
        let more : suc (count_by is_end b) ≡ count_by is_end (b ++ End start gives inner ∷ []) = omega (arith, count_by_push_yes is_end b (End start gives inner) refl) in
        subst (λ n. HasFault net one n) more (fault_later net one (count_by is_end b) (shown (omega (arith, some, count_by_push_no is_own_fault b (End start gives inner) refl))))
    step b (Fault start why) rule shown = by_why (own_why why) refl
      where
        by_why : (o : Bool) → own_why why ≡ o → Shown (b ++ Fault start why ∷ [])
        by_why true own = λ some. subst (λ n. HasFault net one n) (sym (count_by_push_no is_end b (Fault start why) refl)) (fault_here net one values (start_at h) b start rule.0.1.0 rule.0.0 rule.0.1.1.closing (λ t is_t. start_in net h start t (in_tasks net limit h is.shape) (told_before (start_at h) b (Fault start why) rule.0.1.1.told start (open_stands b start rule.0.1.1.closing) ∙ is_t)) (rule.1 own))
        by_why false other = same b (Fault start why) other refl shown
