-- Each legal journal of a net without weak edges and starting tokens is steady: each task has one Start or Drop
-- at most.
use Rattle.std.proofs.Common.{◌≡◌, ◌≢◌, ◌⊎◌, inl, inr, ℕ, ◌+◌, ◌<◌, ◌≤◌, Bool, true, false, ◌&&◌, cond, eqb, List, [], ◌∷◌, ◌++◌, length, take, Option, Some, None, sym, refl, ap, ◌∙◌, subst, arith}
use Rattle.std.specs.Prelude.{slice_get, count_by, ◌==◌, IsSomeAnd}
use Rattle.std.specs.Option.{option_map_or}
use Rattle.std.specs.List.{AllByRecursion, list_any}
use Rattle.std.proofs.lemmas.Bool.Decides.{nat_tests}
use Rattle.std.proofs.lemmas.Bool.{cases_eq, cases_lt, false≢true}
use Rattle.std.proofs.lemmas.List.{length_push, take_all, take-append-le}
use Rattle.task_graph.specs.NetRows.{NetRows}
use Rattle.task_graph.specs.Net.{IsSource, is_weak, strong_in, out_edges}
use Rattle.task_graph.specs.declared.net.TaskRow.{TaskRow}
use Rattle.task_graph.specs.declared.net.EdgeRow.{EdgeRow}
use Rattle.journal_rules.specs.declared.entry.Entry.{Entry}
use Rattle.journal_rules.specs.declared.entry.Entry.TheVariants.{Start, End, Fault, Drop}
use Rattle.journal_rules.specs.declared.entry.Cause.{Cause}
use Rattle.journal_rules.specs.declared.entry.Cause.TheVariants.{Source, Strong, Weak}
use Rattle.journal_rules.specs.Counts.{given, gives_edge, used, used_source, uses, is_strong, is_source, start_at, is_open}
use Rattle.journal_rules.specs.ReleaseRule.{IsReleased}
use Rattle.journal_rules.specs.ChoiceRule.{ChoiceRule, GivesFit, InnerFits}
use Rattle.journal_rules.specs.ClosingRule.{ClosingRule}
use Rattle.journal_rules.specs.Calm.{IsCalm, used_at}
use Rattle.journal_rules.specs.Entries.{EachAfterThese}
use Rattle.journal_rules.specs.ShapeLegal.{ShapeLegal, MayFollow}
use Rattle.journal_rules.specs.OnceNets.{IsOnceNet}
use Rattle.journal_rules.proofs.Snoc.{count_by_push}
use Rattle.journal_rules.proofs.Tallying.{count_by_push_no, count_by_push_yes}
use Rattle.journal_rules.proofs.Reaching.{open_stands}
use Rattle.journal_rules.proofs.NetLemmas.{any_place}
use Rattle.journal_rules.proofs.OnceGiven.{uses_one}
use Rattle.journal_rules.proofs.Reaching.{at_below, each_below}
use Rattle.run_laws.specs.OneThreadValue.{source_of}
use Rattle.run_laws.specs.Ends.{is_task}
use Rattle.run_laws.specs.Steady.{Steady, StartRule, runs_at}
use Rattle.run_laws.proofs.Along.{along, both, weaker, each_front, Told, told_before}
use Rattle.run_laws.proofs.Phases.{Phase, idle, busy, rests_when, may_start, begins, ends_one, stops_one, and_both, ends_few}
use Rattle.run_laws.proofs.Values.{source_strong}
use Rattle.run_laws.proofs.Legally.{Placed, placed_first, placed_step, all_or_none}

-- what each step keeps
record Single (net : NetRows) (at : ℕ → Option ℕ) (b : List Entry) : Type 0 where
  placed : Placed at b
  few : (t : ℕ) → count_by (uses_one t) b ≤ 1
  begun : (t : ℕ) → count_by (begins t) b ≤ count_by (uses_one t) b
  parts : (t : ℕ) → count_by (uses_one t) b ≡ used t b + used_source t b
  no_source : (t : ℕ) → strong_in net t ≢ [] → used_source t b ≡ 0
  no_strong : (t : ℕ) → IsSource net t → used t b ≡ 0
  gifts : (e : ℕ) → count_by (gives_edge e) b ≤ count_by (ends_one at (source_of net e)) b
  unstopped : (t : ℕ) → count_by (uses_one t) b ≡ 0 → count_by (stops_one at t) b ≡ 0
  calm : (e : ℕ) → IsCalm net e b

given_few : (net : NetRows) (at : ℕ → Option ℕ) (b : List Entry) → IsOnceNet net → Single net at b → (e : ℕ) → given net e b ≤ 1
given_few net at b plain single e =
    omega (arith, single.gifts e, plain.no_first e, ends_few at (source_of net e) b (single.placed.phases (source_of net e)), single.begun (source_of net e), single.few (source_of net e))

-- a release that is there is the task's first
none_used : (net : NetRows) (at : ℕ → Option ℕ) (b : List Entry) (t : ℕ) (cause : Cause) → IsOnceNet net → Single net at b → IsReleased net b t cause → count_by (uses_one t) b ≡ 0
none_used net at b t Source plain single released = omega (arith, single.parts t, single.no_strong t released.0, released.1)
none_used net at b t Strong plain single released = by_edges (strong_in net t) refl released.1
  where
    by_edges : (es : List ℕ) → strong_in net t ≡ es → AllByRecursion (λ e. used t b + 1 ≤ given net e b) es → count_by (uses_one t) b ≡ 0
    by_edges [] is held = absurd (released.0 is)
    by_edges (e ∷ es) is held = omega (arith, single.parts t, single.no_source t released.0, held.0, given_few net at b plain single e)
none_used net at b t (Weak e) plain single released = absurd (false≢true (sym (plain.strong e) ∙ released.0))

start_rule : (net : NetRows) (limit : ℕ) (at : ℕ → Option ℕ) (b : List Entry) (x : Entry) → IsOnceNet net → Told at b → MayFollow net limit b x → Single net at b → StartRule b x
start_rule net limit at b (Start task cause ins) plain told may single =
    let none : count_by (uses_one task) b ≡ 0 = none_used net at b task cause plain single may.release in
    may_start at task b told single.placed.behind (rests_when at task b (omega (arith, single.begun task, none)) (single.placed.phases task)) (single.unstopped task none)
start_rule net limit at b (End start gives inner) plain told may single = tt
start_rule net limit at b (Fault start why) plain told may single = tt
start_rule net limit at b (Drop task cause why) plain told may single = tt

-- an edge that holds one token at most stays calm
pub calm_push_one : (net : NetRows) (e : ℕ) (b : List Entry) (x : Entry) → IsCalm net e b → given net e (b ++ x ∷ []) ≤ used_at net e (b ++ x ∷ []) + 1 → IsCalm net e (b ++ x ∷ [])
calm_push_one net e b x calm few = each_below _ (length (b ++ x ∷ []) + 1) (λ n below. by_place n (cases_lt n (length b + 1)) below)
  where
    Calmly : List Entry → Type 0
    Calmly p = given net e p ≤ used_at net e p + 1

    by_place : (n : ℕ) → (n < length b + 1) ⊎ (length b + 1 ≤ n) → n < length (b ++ x ∷ []) + 1 → Calmly (take n (b ++ x ∷ []))
    by_place n (inl old) below = subst Calmly (sym (take-append-le n b (x ∷ []) (omega arith))) (at_below (λ m. given net e (take m b) ≤ used_at net e (take m b) + 1) (length b + 1) calm n old)
    by_place n (inr last) below = subst Calmly (sym (take_all n (b ++ x ∷ []) (omega (arith, length_push b x)))) few

calm_push : (net : NetRows) (e : ℕ) (b : List Entry) (x : Entry) → IsCalm net e b → given net e (b ++ x ∷ []) ≤ 1 → IsCalm net e (b ++ x ∷ [])
calm_push net e b x calm few = calm_push_one net e b x calm (omega arith)

-- what a Start or a Drop changes
record Released (net : NetRows) (b : List Entry) (t : ℕ) (cause : Cause) : Type 0 where
  source : is_source cause ≡ true → IsSource net t
  strong : is_strong cause ≡ true → strong_in net t ≢ []
  either : cond (is_strong cause) 1 0 + cond (is_source cause) 1 0 ≡ 1

released_by : (net : NetRows) (b : List Entry) (t : ℕ) (cause : Cause) → IsOnceNet net → IsReleased net b t cause → Released net b t cause
released_by net b t Source plain r = record { source = λ h. r.0; strong = λ h. absurd (false≢true h); either = refl }
released_by net b t Strong plain r = record { source = λ h. absurd (false≢true h); strong = λ h. r.0; either = refl }
released_by net b t (Weak e) plain r = absurd (false≢true (sym (plain.strong e) ∙ r.0))

-- an entry that uses a release
single_use : (net : NetRows) (limit : ℕ) (at : ℕ → Option ℕ) (b : List Entry) (x : Entry) (task : ℕ) (cause : Cause) → IsOnceNet net → Told at (b ++ x ∷ []) → ClosingRule b x → StartRule b x
    → ((t : ℕ) → uses_one t x ≡ eqb task t && true) → ((t : ℕ) → uses is_strong t x ≡ eqb task t && is_strong cause) → ((t : ℕ) → uses is_source t x ≡ eqb task t && is_source cause)
    → ((t : ℕ) → (begins t x ≡ eqb task t) ⊎ (begins t x ≡ false)) → ((t : ℕ) → ends_one at t x ≡ false) → ((e : ℕ) → gives_edge e x ≡ false)
    → ((t : ℕ) → eqb task t ≡ false → stops_one at t x ≡ false)
    → IsReleased net b task cause → Single net at b → Single net at (b ++ x ∷ [])
single_use net limit at b x task cause plain told closing start use_is strong_is source_is begins_is no_end no_gift no_stop released single = record {
  placed = placed_step at b x told closing start single.placed;
  few = λ t. few_at t (cases_eq task t);
  begun = λ t. begun_at t (eqb task t) refl (begins_is t);
  parts = λ t. parts_at t (eqb task t) refl;
  no_source = λ t has. no_source_at t has (cases_eq task t);
  no_strong = λ t source. no_strong_at t source (cases_eq task t);
  gifts = λ e. omega (arith, single.gifts e, count_by_push_no (gives_edge e) b x (no_gift e), count_by_push_no (ends_one at (source_of net e)) b x (no_end (source_of net e)));
  unstopped = λ t none. unstopped_at t none (eqb task t) refl;
  calm = λ e. calm_push net e b x (single.calm e) (omega (arith, given_few net at b plain single e, count_by_push_no (gives_edge e) b x (no_gift e)));
}
  where
    how : Released net b task cause
    how = released_by net b task cause plain released

    more : (t : ℕ) (same : Bool) → eqb task t ≡ same → count_by (uses_one t) (b ++ x ∷ []) ≡ count_by (uses_one t) b + cond same 1 0
    more t same is = count_by_push (uses_one t) b x ∙ ap (λ u. count_by (uses_one t) b + cond u 1 0) (use_is t ∙ ap (λ s. s && true) is ∙ and_one same)
      where
        and_one : (s : Bool) → s && true ≡ s
        and_one true = refl
        and_one false = refl

    few_at : (t : ℕ) → (task ≡ t) ⊎ (task ≢ t) → count_by (uses_one t) (b ++ x ∷ []) ≤ 1
    few_at t (inl same) =
        let none : count_by (uses_one t) b ≡ 0 = subst (λ s. count_by (uses_one s) b ≡ 0) same (none_used net at b task cause plain single released) in
        omega (arith, more t true (grind (arith, nat_tests)))
    few_at t (inr other) = omega (arith, single.few t, more t false (grind (arith, nat_tests)))

    begun_at : (t : ℕ) (same : Bool) → eqb task t ≡ same → (begins t x ≡ eqb task t) ⊎ (begins t x ≡ false) → count_by (begins t) (b ++ x ∷ []) ≤ count_by (uses_one t) (b ++ x ∷ [])
    begun_at t same is (inl begins_t) = omega (arith, single.begun t, more t same is, count_by_push (begins t) b x ∙ ap (λ u. count_by (begins t) b + cond u 1 0) (begins_t ∙ is))
    begun_at t same is (inr none) = omega (arith, single.begun t, more t same is, count_by_push_no (begins t) b x none)

    parts_at : (t : ℕ) (same : Bool) → eqb task t ≡ same → count_by (uses_one t) (b ++ x ∷ []) ≡ used t (b ++ x ∷ []) + used_source t (b ++ x ∷ [])
    parts_at t true is =
        omega (
          arith,
          single.parts t,
          more t true is,
          how.either,
          count_by_push (uses is_strong t) b x ∙ ap (λ u. used t b + cond u 1 0) (strong_is t ∙ ap (λ s. s && is_strong cause) is),
          count_by_push (uses is_source t) b x ∙ ap (λ u. used_source t b + cond u 1 0) (source_is t ∙ ap (λ s. s && is_source cause) is),
        )
    parts_at t false is =
        omega (arith, single.parts t, more t false is, count_by_push_no (uses is_strong t) b x (strong_is t ∙ ap (λ s. s && is_strong cause) is), count_by_push_no (uses is_source t) b x (source_is t ∙ ap (λ s. s && is_source cause) is))

    no_source_at : (t : ℕ) → strong_in net t ≢ [] → (task ≡ t) ⊎ (task ≢ t) → used_source t (b ++ x ∷ []) ≡ 0
    no_source_at t has (inl same) = by_cause (is_source cause) refl
      where
        by_cause : (s : Bool) → is_source cause ≡ s → used_source t (b ++ x ∷ []) ≡ 0
        by_cause true is = absurd (has (source_strong net t (subst (λ r. IsSource net r) same (how.source is))))
        by_cause false is =
            let hit : eqb task t ≡ true = grind (arith, nat_tests) in
            count_by_push_no (uses is_source t) b x (source_is t ∙ ap (λ s. s && is_source cause) hit ∙ is) ∙ single.no_source t has
    no_source_at t has (inr other) =
        let miss : eqb task t ≡ false = grind (arith, nat_tests) in
        count_by_push_no (uses is_source t) b x (source_is t ∙ ap (λ s. s && is_source cause) miss) ∙ single.no_source t has

    no_strong_at : (t : ℕ) → IsSource net t → (task ≡ t) ⊎ (task ≢ t) → used t (b ++ x ∷ []) ≡ 0
    no_strong_at t source (inl same) = by_cause (is_strong cause) refl
      where
        by_cause : (s : Bool) → is_strong cause ≡ s → used t (b ++ x ∷ []) ≡ 0
        by_cause true is = absurd (how.strong is (source_strong net task (subst (λ r. IsSource net r) (sym same) source)))
        by_cause false is =
            let hit : eqb task t ≡ true = grind (arith, nat_tests) in
            count_by_push_no (uses is_strong t) b x (strong_is t ∙ ap (λ s. s && is_strong cause) hit ∙ is) ∙ single.no_strong t source
    no_strong_at t source (inr other) =
        let miss : eqb task t ≡ false = grind (arith, nat_tests) in
        count_by_push_no (uses is_strong t) b x (strong_is t ∙ ap (λ s. s && is_strong cause) miss) ∙ single.no_strong t source

    unstopped_at : (t : ℕ) → count_by (uses_one t) (b ++ x ∷ []) ≡ 0 → (same : Bool) → eqb task t ≡ same → count_by (stops_one at t) (b ++ x ∷ []) ≡ 0
    unstopped_at t none true is = absurd (omega (arith, none, more t true is))
    unstopped_at t none false is = count_by_push_no (stops_one at t) b x (no_stop t is) ∙ single.unstopped t (omega (arith, none, more t false is))

-- an End or a Fault
single_close : (net : NetRows) (at : ℕ → Option ℕ) (b : List Entry) (x : Entry) → IsOnceNet net → Told at (b ++ x ∷ []) → ClosingRule b x → StartRule b x
    → ((t : ℕ) → uses_one t x ≡ false) → ((t : ℕ) → uses is_strong t x ≡ false) → ((t : ℕ) → uses is_source t x ≡ false) → ((t : ℕ) → begins t x ≡ false)
    → ((e : ℕ) → gives_edge e x ≡ true → ends_one at (source_of net e) x ≡ true)
    → ((t : ℕ) → stops_one at t x ≡ true → 1 ≤ count_by (begins t) b)
    → Single net at b → Single net at (b ++ x ∷ [])
single_close net at b x plain told closing start no_use no_strong no_source no_begin gifts stops_begun single = record {
  placed = placed;
  few = λ t. omega (arith, single.few t, same_use t);
  begun = λ t. omega (arith, single.begun t, same_use t, same_begun t);
  parts = λ t. omega (arith, single.parts t, same_use t, count_by_push_no (uses is_strong t) b x (no_strong t), count_by_push_no (uses is_source t) b x (no_source t));
  no_source = λ t has. count_by_push_no (uses is_source t) b x (no_source t) ∙ single.no_source t has;
  no_strong = λ t source. count_by_push_no (uses is_strong t) b x (no_strong t) ∙ single.no_strong t source;
  gifts = more_gifts;
  unstopped = λ t none. unstopped_at t none (stops_one at t x) refl;
  calm = λ e. calm_push net e b x (single.calm e)
      (omega (arith, more_gifts e, plain.no_first e, ends_few at (source_of net e) (b ++ x ∷ []) (placed.phases (source_of net e)), same_begun (source_of net e), single.begun (source_of net e), single.few (source_of net e)));
}
  where
    placed : Placed at (b ++ x ∷ [])
    placed = placed_step at b x told closing start single.placed

    same_use : (t : ℕ) → count_by (uses_one t) (b ++ x ∷ []) ≡ count_by (uses_one t) b
    same_use t = count_by_push_no (uses_one t) b x (no_use t)

    same_begun : (t : ℕ) → count_by (begins t) (b ++ x ∷ []) ≡ count_by (begins t) b
    same_begun t = count_by_push_no (begins t) b x (no_begin t)

    more_gifts : (e : ℕ) → count_by (gives_edge e) (b ++ x ∷ []) ≤ count_by (ends_one at (source_of net e)) (b ++ x ∷ [])
    more_gifts e = by_gift (gives_edge e x) refl
      where
        by_gift : (g : Bool) → gives_edge e x ≡ g → count_by (gives_edge e) (b ++ x ∷ []) ≤ count_by (ends_one at (source_of net e)) (b ++ x ∷ [])
        by_gift true gift = omega (arith, single.gifts e, count_by_push_yes (gives_edge e) b x gift, count_by_push_yes (ends_one at (source_of net e)) b x (gifts e gift))
        by_gift false none = omega (arith, single.gifts e, count_by_push_no (gives_edge e) b x none, count_by_push (ends_one at (source_of net e)) b x)

    unstopped_at : (t : ℕ) → count_by (uses_one t) (b ++ x ∷ []) ≡ 0 → (s : Bool) → stops_one at t x ≡ s → count_by (stops_one at t) (b ++ x ∷ []) ≡ 0
    unstopped_at t none true stopped = absurd (omega (arith, none, same_use t, single.begun t, stops_begun t stopped))
    unstopped_at t none false still = count_by_push_no (stops_one at t) b x still ∙ single.unstopped t (sym (same_use t) ∙ none)

-- an End gives edges that leave its task
pub gift_source : (net : NetRows) (at : ℕ → Option ℕ) (b : List Entry) (start : ℕ) (gives : List ℕ) (inner : Bool) (e : ℕ) → ((f : ℕ) → is_weak net f ≡ false) → Told at b → ClosingRule b (End start gives inner) → ChoiceRule net b (End start gives inner)
    → list_any (λ g. g == e) gives ≡ true → is_task (source_of net e) (at start) ≡ true
gift_source net at b start gives inner e strong told closing choice gift = by_task (start_at b start) refl choice
  where
    by_edge : (t : ℕ) → (row : Option EdgeRow) → slice_get net.edges e ≡ row → option_map_or (λ (r : EdgeRow). r.from == t) row false ≡ true → source_of net e ≡ t
    by_edge t None is h = absurd (false≢true h)
    by_edge t (Some row) is h = let here : source_of net e ≡ row.from = ap (λ o. option_map_or (λ (r : EdgeRow). r.from) o 0) is in grind (arith, nat_tests)

    by_fit : (t : ℕ) → start_at b start ≡ Some t → (gives ≡ out_edges net t) ⊎ (gives ≡ []) → is_task (source_of net e) (at start) ≡ true
    by_fit t is_t (inl all) =
        let leaves : source_of net e ≡ t = by_edge t (slice_get net.edges e) refl (sym (any_place (λ (r : EdgeRow). r.from == t) e net.edges) ∙ sym (ap (λ gs. list_any (λ g. g == e) gs) all) ∙ gift) in
        let hit : eqb t (source_of net e) ≡ true = grind (arith, nat_tests) in
        ap (is_task (source_of net e)) (told start (open_stands b start closing) ∙ is_t) ∙ hit
    by_fit t is_t (inr none) = absurd (false≢true (sym (ap (λ gs. list_any (λ g. g == e) gs) none) ∙ gift))

    by_row : (t : ℕ) → start_at b start ≡ Some t → (row : Option TaskRow) → slice_get net.tasks t ≡ row → IsSomeAnd row (λ (r : TaskRow). GivesFit r.shape (out_edges net t) gives × InnerFits r.shape inner) → is_task (source_of net e) (at start) ≡ true
    by_row t is_t None is fits = absurd fits
    by_row t is_t (Some row) is fits = by_fit t is_t (all_or_none net t row gives strong is fits.0)

    by_task : (o : Option ℕ) → start_at b start ≡ o → IsSomeAnd o (λ t. IsSomeAnd (slice_get net.tasks t) (λ (row : TaskRow). GivesFit row.shape (out_edges net t) gives × InnerFits row.shape inner)) → is_task (source_of net e) (at start) ≡ true
    by_task None is fits = absurd fits
    by_task (Some t) is fits = by_row t is (slice_get net.tasks t) refl fits

-- what an entry closes was begun
closed_begun : (at : ℕ → Option ℕ) (b : List Entry) (start : ℕ) (t : ℕ) → Told at b → is_open b start ≡ true → is_task t (at start) ≡ true → Phase at t b → 1 ≤ count_by (begins t) b
closed_begun at b start t told opened its phase = by_phase phase
  where
    runs : runs_at t b start ≡ true
    runs = and_both _ _ (ap (is_task t) (sym (told start (open_stands b start opened))) ∙ its) opened

    by_phase : Phase at t b → 1 ≤ count_by (begins t) b
    by_phase (idle same rests) = absurd (rests start runs)
    by_phase (busy n one is) = omega arith

single_step : (net : NetRows) (limit : ℕ) (at : ℕ → Option ℕ) (b : List Entry) (x : Entry) → IsOnceNet net → Told at (b ++ x ∷ []) → MayFollow net limit b x → Single net at b → Single net at (b ++ x ∷ [])
single_step net limit at b (Start task cause ins) plain told may single =
    single_use net limit at b (Start task cause ins) task cause plain told may.closing (start_rule net limit at b (Start task cause ins) plain (told_before at b (Start task cause ins) told) may single)
    (λ t. refl) (λ t. refl) (λ t. refl) (λ t. inl refl) (λ t. refl) (λ e. refl) (λ t miss. refl) may.release single
single_step net limit at b (Drop task cause why) plain told may single =
    single_use net limit at b (Drop task cause why) task cause plain told may.closing tt
    (λ t. refl) (λ t. refl) (λ t. refl) (λ t. inr refl) (λ t. refl) (λ e. refl) (λ t miss. miss) may.release single
single_step net limit at b (End start gives inner) plain told may single =
    single_close net at b (End start gives inner) plain told may.closing tt
    (λ t. refl) (λ t. refl) (λ t. refl) (λ t. refl)
    (λ e gift. gift_source net at b start gives inner e plain.strong (told_before at b (End start gives inner) told) may.closing may.choice gift) (λ t stopped. absurd (false≢true stopped)) single
single_step net limit at b (Fault start why) plain told may single =
    single_close net at b (Fault start why) plain told may.closing tt
    (λ t. refl) (λ t. refl) (λ t. refl) (λ t. refl)
    (λ e gift. absurd (false≢true gift)) (λ t stopped. closed_begun at b start t (told_before at b (Fault start why) told) may.closing stopped (single.placed.phases t)) single

single_first : (net : NetRows) (at : ℕ → Option ℕ) → IsOnceNet net → Single net at []
single_first net at plain = record {
  placed = placed_first at;
  few = λ t. omega arith;
  begun = λ t. omega arith;
  parts = λ t. refl;
  no_source = λ t has. refl;
  no_strong = λ t source. refl;
  gifts = λ e. omega arith;
  unstopped = λ t none. refl;
  calm = λ e. (omega (arith, plain.no_first e), tt);
}

-- Each shape-legal journal of such a net is steady.
pub steady_once : (net : NetRows) (limit : ℕ) (h : List Entry) → IsOnceNet net → ShapeLegal net limit h → Steady net h
steady_once net limit h plain shape = record {
  calm = each_below (λ e. IsCalm net e h) (length net.edges) (λ e below. all.1.calm e);
  single = weaker Rule StartRule (λ b x rule. start_rule net limit at b x plain (told_before at b x rule.1.0) rule.1.1 rule.0) [] h all.0;
}
  where
    at : ℕ → Option ℕ
    at = start_at h

    Rule : List Entry → Entry → Type 0
    Rule b x = Single net at b × (Told at (b ++ x ∷ []) × MayFollow net limit b x)

    all : EachAfterThese Rule [] h × Single net at h
    all = along (λ b x. Told at (b ++ x ∷ []) × MayFollow net limit b x) (Single net at) (λ b x rule kept. single_step net limit at b x plain rule.0 rule.1 kept) [] h (single_first net at plain)
        (both _ _ [] h (each_front (Told at) (told_before at) [] h (λ n below. refl)) shape)

-- and each task has one Start at most in it
pub begun_once : (net : NetRows) (limit : ℕ) (h : List Entry) → IsOnceNet net → ShapeLegal net limit h → (t : ℕ) → count_by (begins t) h ≤ 1
begun_once net limit h plain shape t =
    let single : Single net (start_at h) h = (along (λ b x. Told (start_at h) (b ++ x ∷ []) × MayFollow net limit b x) (Single net (start_at h)) (λ b x rule kept. single_step net limit (start_at h) b x plain rule.0 rule.1 kept) [] h (single_first net (start_at h) plain)
    (both _ _ [] h (each_front (Told (start_at h)) (told_before (start_at h)) [] h (λ n below. refl)) shape)).1 in
    omega (arith, single.begun t, single.few t)
