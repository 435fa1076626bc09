-- A legal, steady journal of a net without weak edges has at each entry what is needed.
use Rattle.std.proofs.Common.{◌≡◌, ◌⊎◌, inr, ℕ, suc, ◌<◌, ◌≤◌, Bool, true, false, cond, List, [], ◌∷◌, ◌++◌, length, Option, Some, None, sym, refl, ap, ◌∙◌, subst, arith}
use Rattle.std.specs.Prelude.{slice_get, count_by, ◌==◌, IsSomeAnd}
use Rattle.std.specs.Option.{option_map_or}
use Rattle.std.proofs.lemmas.Bool.Decides.{nat_tests}
use Rattle.std.proofs.lemmas.Bool.{false≢true}
use Rattle.std.proofs.lemmas.Option.{slice_get_within, slice_get-get_or}
use Rattle.std.proofs.Common.{get_or}
use Rattle.task_graph.specs.NetRows.{NetRows}
use Rattle.task_graph.specs.Places.{places_from}
use Rattle.task_graph.specs.Net.{is_weak, is_weak_row, task_chooses, chooses, out_edges}
use Rattle.task_graph.specs.declared.net.Shape.{Shape}
use Rattle.task_graph.specs.declared.net.Shape.TheVariants.{Plain, Choice, Many, Nested}
use Rattle.task_graph.specs.declared.net.TaskRow.{TaskRow}
use Rattle.task_graph.specs.declared.net.EdgeRow.{EdgeRow}
use Rattle.journal_rules.specs.declared.entry.Entry.{Entry}
use Rattle.journal_rules.specs.declared.entry.Entry.TheVariants.{Start, End, Fault, Drop}
use Rattle.journal_rules.specs.Counts.{start_at}
use Rattle.journal_rules.specs.ChoiceRule.{ChoiceRule, GivesFit, InnerFits, AreAmong}
use Rattle.journal_rules.specs.ClosingRule.{ClosingRule}
use Rattle.journal_rules.specs.Calm.{IsCalm}
use Rattle.journal_rules.specs.DataRule.{DataRule}
use Rattle.journal_rules.specs.Entries.{EachAfter, EachAfterThese}
use Rattle.journal_rules.specs.ShapeLegal.{ShapeLegal, MayFollow, MeetsDataRule}
use Rattle.journal_rules.proofs.Reaching.{open_stands}
use Rattle.legal_run.proofs.CalmEdges.{calm_before}
use Rattle.journal_rules.proofs.Reaching.{at_below}
use Rattle.run_frame.specs.declared.run.ValueRow.{ValueRow}
use Rattle.run_frame.specs.Runs.{value_at}
use Rattle.run_frame.specs.WorkRule.{Work, work_at}
use Rattle.run_laws.specs.OneThreadValue.{TaskEnd, OneAnswer, one_thread_value}
use Rattle.run_laws.specs.Ends.{ends}
use Rattle.run_laws.specs.Steady.{Steady, StartRule}
use Rattle.run_laws.proofs.Along.{along, both, weaker, each_front, Told, told_before}
use Rattle.run_laws.proofs.Phases.{Phase, Behind, idle, phase_step, behind_step, ends_few, begins, ends_one}
use Rattle.run_laws.proofs.Steps.{EndAt, EndsWell, StepAt, starts_in, ends_in}
use Rattle.run_laws.proofs.Values.{Kept, Ran, kept_first, kept_step}
use Rattle.run_laws.proofs.Agreement.{Answered, agrees, agree_at}

-- An End has the value and the edges of the one answer on what its Start found.
abbrev pub IsOneEnd : {V : Type 0} → OneAnswer V → List (ValueRow V) → List Entry → Entry → Type 0
IsOneEnd one values b (Start task cause ins) = Unit {0}
IsOneEnd one values b (End start gives inner) =
    IsSomeAnd (work_at values b start) (λ work. IsSomeAnd (value_at values (length b)) (λ v. one work.task work.found ≡ Some (record { value = v; gives = gives })))
IsOneEnd one values b (Fault start why) = Unit {0}
IsOneEnd one values b (Drop task cause why) = Unit {0}

-- behind and phases, along the journal
pub record Placed (at : ℕ → Option ℕ) (b : List Entry) : Type 0 where
  pub behind : Behind b
  pub phases : (t : ℕ) → Phase at t b

pub placed_first : (at : ℕ → Option ℕ) → Placed at []
placed_first at = record {
  behind = record { unclosed = λ n past. refl; settled = λ t f g same. refl };
  phases = λ t. idle refl (λ n runs. absurd (cc));
}

pub placed_step : (at : ℕ → Option ℕ) (b : List Entry) (x : Entry) → Told at (b ++ x ∷ []) → ClosingRule b x → StartRule b x → Placed at b → Placed at (b ++ x ∷ [])
placed_step at b x told closing start placed = record {
  behind = behind_step b x closing placed.behind;
  phases = λ t. phase_step at t b x (told_before at b x told) placed.behind closing start (placed.phases t);
}

-- a task that chooses has no out-edge in a net without weak edges
no_place : {X : Type 0} (p : X → Bool) (n : ℕ) (xs : List X) → ((i : ℕ) (x : X) → slice_get xs i ≡ Some x → p x ≡ false) → places_from p n xs ≡ []
no_place p n [] none = refl
no_place p n (x ∷ xs) none = ap (λ b. cond b (n ∷ places_from p (suc n) xs) (places_from p (suc n) xs)) (none 0 x refl) ∙ no_place p (suc n) xs (λ i y is. none (suc i) y is)

chooser_ends : (net : NetRows) (t : ℕ) → ((e : ℕ) → is_weak net e ≡ false) → task_chooses net t ≡ true → out_edges net t ≡ []
chooser_ends net t strong chooses_t = no_place (λ (row : EdgeRow). row.from == t) 0 net.edges each
  where
    each : (e : ℕ) (row : EdgeRow) → slice_get net.edges e ≡ Some row → (row.from == t) ≡ false
    each e row is = by_test (row.from == t) refl
      where
        by_test : (b : Bool) → (row.from == t) ≡ b → b ≡ false
        by_test false test = refl
        by_test true test =
            let same : row.from ≡ t = grind (arith, nat_tests) in
            let weak : is_weak net e ≡ true = ap (λ o. option_map_or (is_weak_row net) o false) is ∙ ap (task_chooses net) same ∙ chooses_t in
            absurd (false≢true (sym (strong e) ∙ weak))

among_none : (gives : List ℕ) → AreAmong [] gives → gives ≡ []
among_none [] among = refl
among_none (g ∷ gives) among = absurd (false≢true among.0)

pub all_or_none : (net : NetRows) (t : ℕ) (row : TaskRow) (gives : List ℕ) → ((e : ℕ) → is_weak net e ≡ false) → slice_get net.tasks t ≡ Some row → GivesFit row.shape (out_edges net t) gives → (gives ≡ out_edges net t) ⊎ (gives ≡ [])
all_or_none net t row gives strong is fit = by_shape row.shape refl fit
  where
    chooses_is : (s : Shape) → row.shape ≡ s → task_chooses net t ≡ chooses s
    chooses_is s shape = ap (λ o. option_map_or (λ (r : TaskRow). chooses r.shape) o false) is ∙ ap chooses shape

    by_shape : (s : Shape) → row.shape ≡ s → GivesFit s (out_edges net t) gives → (gives ≡ out_edges net t) ⊎ (gives ≡ [])
    by_shape Plain shape f = f
    by_shape Nested shape f = f
    by_shape Choice shape f = inr (among_none gives (subst (λ out. AreAmong out gives) (chooser_ends net t strong (chooses_is Choice shape)) f.1))
    by_shape Many shape f = inr (among_none gives (subst (λ out. AreAmong out gives) (chooser_ends net t strong (chooses_is Many shape)) f.1))

-- what an End is
ends_well : {V : Type 0} (net : NetRows) (one : OneAnswer V) (values : List (ValueRow V)) (at : ℕ → Option ℕ) (b : List Entry) (x : Entry) → ((e : ℕ) → is_weak net e ≡ false) → Told at b → ClosingRule b x → ChoiceRule net b x → IsOneEnd one values b x → EndsWell net one values at b x
ends_well net one values at b (Start task cause ins) strong told closing choice is_one = tt
ends_well net one values at b (Fault start why) strong told closing choice is_one = tt
ends_well net one values at b (Drop task cause why) strong told closing choice is_one = tt
ends_well {V} net one values at b (End start gives inner) strong told closing choice is_one = by_task (start_at b start) refl choice
  where
    by_row : (t : ℕ) → start_at b start ≡ Some t → (row : Option TaskRow) → slice_get net.tasks t ≡ row → IsSomeAnd row (λ (r : TaskRow). GivesFit r.shape (out_edges net t) gives × InnerFits r.shape inner) → EndAt net one values at b start gives
    by_row t is_t None is fits = absurd fits
    by_row t is_t (Some row) is fits = by_work (work_at values b start) refl is_one
      where
        by_value : (work : Work V) → work_at values b start ≡ Some work → (o : Option V) → value_at values (length b) ≡ o → IsSomeAnd o (λ v. one work.task work.found ≡ Some (record { value = v; gives = gives })) → EndAt net one values at b start gives
        by_value work is_work None is_v ones = absurd ones
        by_value work is_work (Some v) is_v ones = record {
          task = t;
          of_task = told start (open_stands b start closing) ∙ is_t;
          fit = all_or_none net t row gives strong is fits.0;
          v = v;
          value = is_v;
          work = work;
          found = is_work;
          answered = ones;
        }

        by_work : (o : Option (Work V)) → work_at values b start ≡ o → IsSomeAnd o (λ (work : Work V). IsSomeAnd (value_at values (length b)) (λ v. one work.task work.found ≡ Some (record { value = v; gives = gives }))) → EndAt net one values at b start gives
        by_work None is_work ones = absurd ones
        by_work (Some work) is_work ones = by_value work is_work (value_at values (length b)) refl ones

    by_task : (o : Option ℕ) → start_at b start ≡ o → IsSomeAnd o (λ t. IsSomeAnd (slice_get net.tasks t) (λ (row : TaskRow). GivesFit row.shape (out_edges net t) gives × InnerFits row.shape inner)) → EndAt net one values at b start gives
    by_task None is fits = absurd fits
    by_task (Some t) is fits = by_row t is (slice_get net.tasks t) refl fits

-- a journal that is shape-legal, meets the data rule, is steady, and whose Ends are the one answer's
pub record Given {V : Type 0} (net : NetRows) (limit : ℕ) (one : OneAnswer V) (values : List (ValueRow V)) (h : List Entry) : Type 0 where
  pub strong : (e : ℕ) → is_weak net e ≡ false
  pub shape : ShapeLegal net limit h
  pub found : MeetsDataRule net h
  pub steady : Steady net h
  pub one_ends : EachAfter (IsOneEnd one values) h

-- each entry and what is known of it
pub placed_along : (net : NetRows) (limit : ℕ) (h : List Entry) → ShapeLegal net limit h → EachAfter StartRule h → EachAfterThese (λ b x. Placed (start_at h) b × (Told (start_at h) (b ++ x ∷ []) × (MayFollow net limit b x × StartRule b x))) [] h × Placed (start_at h) h
placed_along net limit h shape single =
    along (λ b x. Told (start_at h) (b ++ x ∷ []) × (MayFollow net limit b x × StartRule b x)) (Placed (start_at h)) (λ b x rule. placed_step (start_at h) b x rule.0 rule.1.0.closing rule.1.1) [] h (placed_first (start_at h))
    (both _ _ [] h (each_front (Told (start_at h)) (told_before (start_at h)) [] h (λ n below. refl)) (both _ _ [] h shape single))

-- what is known of each entry
abbrev pub Known : {V : Type 0} → NetRows → OneAnswer V → List (ValueRow V) → List Entry → List Entry → Entry → Type 0
Known net one values h b x = StepAt net one values (start_at h) b x

pub known_along : {V : Type 0} (net : NetRows) (limit : ℕ) (one : OneAnswer V) (values : List (ValueRow V)) (h : List Entry) → Given net limit one values h → EachAfter (Known net one values h) h
known_along {V} net limit one values h is = weaker Rule (Known net one values h) step [] h rules
  where
    Calm : List Entry → Type 0
    Calm b = (e : ℕ) → e < length net.edges → IsCalm net e b

    Rule : List Entry → Entry → Type 0
    Rule b x = (Placed (start_at h) b × (Told (start_at h) (b ++ x ∷ []) × (MayFollow net limit b x × StartRule b x))) × (Calm (b ++ x ∷ []) × (DataRule net b x × IsOneEnd one values b x))

    calm_h : Calm h
    calm_h = at_below (λ e. IsCalm net e h) (length net.edges) is.steady.calm

    rules : EachAfterThese Rule [] h
    rules =
        both _ _ [] h (placed_along net limit h is.shape is.steady.single).0
        (both _ _ [] h (each_front Calm (λ b x calm e below. calm_before net e b x (calm e below)) [] h calm_h) (both _ _ [] h is.found is.one_ends))

    step : (b : List Entry) (x : Entry) → Rule b x → StepAt net one values (start_at h) b x
    step b x rule = record {
      told = rule.0.1.0;
      behind = rule.0.0.behind;
      phases = rule.0.0.phases;
      release = rule.0.1.1.0.release;
      closing = rule.0.1.1.0.closing;
      start = rule.0.1.1.1;
      calm = λ e below. calm_before net e b x (rule.1.0 e below);
      data_rule = rule.1.1.0;
      well = ends_well net one values (start_at h) b x is.strong (told_before (start_at h) b x rule.0.1.0) rule.0.1.1.0.closing rule.0.1.1.0.choice rule.1.1.1;
    }

-- what is kept along it
pub kept_all : {V : Type 0} (net : NetRows) (limit : ℕ) (one : OneAnswer V) (values : List (ValueRow V)) (h : List Entry) → Given net limit one values h
    → EachAfter (λ b x. Kept net one values (start_at h) b × Known net one values h b x) h × Kept net one values (start_at h) h
kept_all net limit one values h is =
    along (Known net one values h) (Kept net one values (start_at h)) (λ b x step. kept_step net one values (start_at h) is.strong b x step) [] h (kept_first net one values (start_at h)) (known_along net limit one values h is)

-- The ends of each task are its one-thread values, as far as both go.
pub one_thread : {V : Type 0} (net : NetRows) (limit : ℕ) (one : OneAnswer V) (values : List (ValueRow V)) (h : List Entry) → Given net limit one values h
    → (n t k : ℕ) (u w : TaskEnd V) → slice_get (one_thread_value net one n t) k ≡ Some u → slice_get (ends values h t) k ≡ Some w → w ≡ u
one_thread {V} net limit one values h is n t k u w at_u at_w =
    sym (agree_at (one_thread_value net one n t) (ends values h t) (agrees net one values (start_at h) h kept started n t) k u w at_u at_w)
  where
    kept : Kept net one values (start_at h) h
    kept = (kept_all net limit one values h is).1

    started : (s j : ℕ) (v : TaskEnd V) → slice_get (ends_in values (start_at h) s h) j ≡ Some v → Answered (one s) (starts_in values s h) j v
    started s j v at_j =
        let ran : Ran net one values (start_at h) s h (starts_in values s h) (ends_in values (start_at h) s h) = kept.ran s in
        let few : count_by (ends_one (start_at h) s) h ≤ count_by (begins s) h = ends_few (start_at h) s h ((placed_along net limit h is.shape is.steady.single).1.phases s) in
        let below : j < length (starts_in values s h) = omega (arith, slice_get_within _ j v at_j, ran.ended, ran.begun) in
        let at_start = slice_get-get_or (starts_in values s h) j [] below in
        record { item = get_or (starts_in values s h) j []; at_item = at_start; is = ran.answered j _ v at_start at_j }
