-- Along a legal, steady journal: what the k-th Start of a task found is part k of each of its in-edges, and the
-- k-th end of the task is the one answer on it.
use Rattle.std.proofs.Common.{◌≡◌, ◌≢◌, ◌⊎◌, inl, inr, ℕ, zero, suc, ◌+◌, ◌<◌, ◌≤◌, Bool, true, false, not, ◌&&◌, cond, eqb, List, [], ◌∷◌, ◌++◌, length, map, Option, Some, None, sym, refl, ap, ◌∙◌, subst, arith}
use Rattle.std.specs.Prelude.{slice_get, count_by, filter, ◌==◌}
use Rattle.std.specs.Option.{option_map_or}
use Rattle.std.specs.List.{AllByRecursion, AllZip, list_any}
use Rattle.std.proofs.lemmas.Bool.Decides.{nat_tests}
use Rattle.std.proofs.lemmas.Bool.{cases_eq, cases_lt, false≢true}
use Rattle.std.proofs.lemmas.List.{append-nil, append_assoc, length_push}
use Rattle.std.proofs.lemmas.Option.{slice_get_within, same_Some}
use Rattle.task_graph.specs.NetRows.{NetRows}
use Rattle.task_graph.specs.Net.{IsSource, is_weak, is_weak_row, strong_in, out_edges}
use Rattle.task_graph.specs.declared.net.EdgeRow.{EdgeRow}
use Rattle.journal_rules.specs.declared.entry.Entry.{Entry}
use Rattle.journal_rules.specs.declared.entry.Entry.TheVariants.{Start, End, Fault, Drop}
use Rattle.journal_rules.specs.declared.entry.Cause.{Cause}
use Rattle.journal_rules.specs.declared.entry.Cause.TheVariants.{Source, Strong, Weak}
use Rattle.journal_rules.specs.declared.entry.Part.{Part}
use Rattle.journal_rules.specs.declared.entry.Part.TheVariants.{From}
use Rattle.journal_rules.specs.Counts.{given, gives_edge, first_tokens, used, used_weak, uses, is_strong, start_at, is_open}
use Rattle.journal_rules.specs.ReleaseRule.{IsReleased}
use Rattle.journal_rules.specs.Calm.{IsCalm, used_at}
use Rattle.journal_rules.specs.DataRule.{IsPartAt, edges_of, last_part}
use Rattle.journal_rules.proofs.Snoc.{count_by_push, slice_get_push_below, slice_get_push_last, last_part_push}
use Rattle.journal_rules.proofs.Tallying.{count_by_push_no, count_by_push_yes, given_push}
use Rattle.journal_rules.proofs.Reaching.{open_stands}
use Rattle.journal_rules.proofs.NetLemmas.{any_place}
use Rattle.legal_run.proofs.CalmEdges.{calm_now}
use Rattle.join_words.specs.Ins.{InputValue, value, first}
use Rattle.run_frame.specs.declared.run.ValueRow.{ValueRow}
use Rattle.run_frame.specs.Runs.{value_at, found_at, found_by, found_ins}
use Rattle.run_frame.specs.WorkRule.{Work, work_at, work_of}
use Rattle.run_laws.specs.OneThreadValue.{TaskEnd, OneAnswer, tokens, begun, source_of}
use Rattle.run_laws.specs.Ends.{end_of, is_task}
use Rattle.run_laws.specs.Steady.{runs_at, MayStart}
use Rattle.run_laws.proofs.Along.{Told, told_before, gather_push}
use Rattle.run_laws.proofs.Lists.{get_append, get_push, get_front, zip_weaken, zip_mapped, all_weaken, all_both, all_places, filter_append, map_append, none_strong}
use Rattle.run_laws.proofs.Phases.{Phase, Behind, RunsAt, begins, ends_one, stops_one, and_left, and_right, and_both, runs_old, runs_was, runs_last, rests_closed, idle_before, busy_with}
use Rattle.run_laws.proofs.Steps.{EndAt, StepAt, start_of, starts_in, ends_in, tokens_in}

-- a source task has no strong in-edge
pub source_strong : (net : NetRows) (t : ℕ) → IsSource net t → strong_in net t ≡ []
source_strong net t source = none_strong (λ (row : EdgeRow). row.to == t) (λ (row : EdgeRow). not (is_weak_row net row)) 0 net.edges source

-- a task's Starts and Ends so far
pub record Ran {V : Type 0} (net : NetRows) (one : OneAnswer V) (values : List (ValueRow V)) (at : ℕ → Option ℕ) (t : ℕ) (b : List Entry) (S : List (List (InputValue V))) (E : List (TaskEnd V)) : Type 0 where
  pub begun : length S ≡ count_by (begins t) b
  pub ended : length E ≡ count_by (ends_one at t) b
  pub used_up : count_by (stops_one at t) b ≡ 0 → strong_in net t ≢ [] → length S ≡ used t b
  pub opened : (n : ℕ) (work : Work V) → runs_at t b n ≡ true → work_at values b n ≡ Some work → (work.task ≡ t) × (slice_get S (length E) ≡ Some work.found)
  pub answered : (k : ℕ) (ins : List (InputValue V)) (u : TaskEnd V) → slice_get S k ≡ Some ins → slice_get E k ≡ Some u → one t ins ≡ Some u

-- the work of a Start that stands already
work_before : {V : Type 0} (values : List (ValueRow V)) (b : List Entry) (x : Entry) (n : ℕ) → n < length b → work_at values (b ++ x ∷ []) n ≡ work_at values b n
work_before {V} values b x n below = ap (λ (o : Option Entry). elim o as (λ _. Option (Work V)) [ None ↦ None | Some entry ↦ work_of values entry ]) (slice_get_push_below b x n below)

work_last : {V : Type 0} (values : List (ValueRow V)) (b : List Entry) (x : Entry) → work_at values (b ++ x ∷ []) (length b) ≡ work_of values x
work_last {V} values b x = ap (λ (o : Option Entry). elim o as (λ _. Option (Work V)) [ None ↦ None | Some entry ↦ work_of values entry ]) (slice_get_push_last b x)

-- an entry that is neither a Start nor an End of the task
ran_quiet : {V : Type 0} (net : NetRows) (one : OneAnswer V) (values : List (ValueRow V)) (at : ℕ → Option ℕ) (t : ℕ) (b : List Entry) (x : Entry) (S : List (List (InputValue V))) (E : List (TaskEnd V))
    → begins t x ≡ false → ends_one at t x ≡ false → (count_by (stops_one at t) (b ++ x ∷ []) ≡ 0 → used t (b ++ x ∷ []) ≡ used t b)
    → Ran net one values at t b S E → Ran net one values at t (b ++ x ∷ []) S E
ran_quiet net one values at t b x S E none no_end used_same r = record {
  begun = r.begun ∙ sym (count_by_push_no (begins t) b x none);
  ended = r.ended ∙ sym (count_by_push_no (ends_one at t) b x no_end);
  used_up = λ unstopped has. r.used_up (omega (arith, unstopped, count_by_push (stops_one at t) b x)) has ∙ sym (used_same unstopped);
  opened = λ n work runs is.
      let was : runs_at t b n ≡ true = runs_old t b x none n runs in
      let below : n < length b = open_stands b n (and_right (is_task t (start_at b n)) _ was) in
      r.opened n work was (sym (work_before values b x n below) ∙ is);
  answered = r.answered;
}

-- a Start of the task
ran_start : {V : Type 0} (net : NetRows) (one : OneAnswer V) (values : List (ValueRow V)) (at : ℕ → Option ℕ) (t : ℕ) (b : List Entry) (cause : Cause) (ins : List Part) (S : List (List (InputValue V))) (E : List (TaskEnd V))
    → ((e : ℕ) → is_weak net e ≡ false) → Told at b → Behind b → MayStart t b → Phase at t b → IsReleased net b t cause
    → Ran net one values at t b S E → Ran net one values at t (b ++ Start t cause ins ∷ []) (S ++ found_ins values ins ∷ []) E
ran_start {V} net one values at t b cause ins S E strong told behind may phase released r = record {
  begun = length_push S (found_ins values ins) ∙ omega (arith, r.begun, count_by_push_yes (begins t) b x yes);
  ended = r.ended ∙ sym (count_by_push_no (ends_one at t) b x refl);
  used_up = λ unstopped has. length_push S (found_ins values ins) ∙ omega (arith, r.used_up (sym (count_by_push_no (stops_one at t) b x refl) ∙ unstopped) has, count_by_push_yes (uses is_strong t) b x (and_both _ _ yes (by_strong cause released has)));
  opened = λ n work runs is. opened_here n work (cases_lt n (length b)) runs is;
  answered = λ k js u at_k end_k. r.answered k js u (get_front S (found_ins values ins ∷ []) k js (omega (arith, slice_get_within E k u end_k, same_length)) at_k) end_k;
}
  where
    x : Entry
    x = Start t cause ins

    yes : begins t x ≡ true
    yes = grind (arith, nat_tests)

    same_length : length E ≡ length S
    same_length = r.ended ∙ sym (idle_before at t b told behind may phase).0 ∙ sym r.begun

    by_strong : (c : Cause) → IsReleased net b t c → strong_in net t ≢ [] → is_strong c ≡ true
    by_strong Source rel has = absurd (has (source_strong net t rel.0))
    by_strong Strong rel has = refl
    by_strong (Weak e) rel has = absurd (false≢true (sym (strong e) ∙ rel.0))

    opened_here : (n : ℕ) (work : Work V) → (n < length b) ⊎ (length b ≤ n) → runs_at t (b ++ x ∷ []) n ≡ true → work_at values (b ++ x ∷ []) n ≡ Some work → (work.task ≡ t) × (slice_get (S ++ found_ins values ins ∷ []) (length E) ≡ Some work.found)
    opened_here n work (inl below) runs is = absurd ((idle_before at t b told behind may phase).1 n (runs_was t b x n below runs))
    opened_here n work (inr past) runs is =
        let here : n ≡ length b = (runs_last t b x n past runs).0 in
        let same : Some (record { task = t; found = found_ins values ins }) ≡ Some work = sym (work_last values b x) ∙ subst (λ m. work_at values (b ++ x ∷ []) m ≡ Some work) here is in
        let is_work : record { task = t; found = found_ins values ins } ≡ work = same_Some _ _ same in
        (sym (ap (λ (w : Work V). w.task) is_work), ap (λ m. slice_get (S ++ found_ins values ins ∷ []) m) same_length ∙ slice_get_push_last S (found_ins values ins) ∙ ap (λ (w : Work V). Some w.found) is_work)

-- an End of the task
ran_end : {V : Type 0} (net : NetRows) (one : OneAnswer V) (values : List (ValueRow V)) (at : ℕ → Option ℕ) (b : List Entry) (start : ℕ) (gives : List ℕ) (inner : Bool)
    (a : EndAt net one values at b start gives) (S : List (List (InputValue V))) (E : List (TaskEnd V))
    → Told at b → Phase at a.task b → is_open b start ≡ true
    → Ran net one values at a.task b S E → Ran net one values at a.task (b ++ End start gives inner ∷ []) S (E ++ (record { value = a.v; gives = gives }) ∷ [])
ran_end {V} net one values at b start gives inner a S E told phase is_opened r = record {
  begun = r.begun ∙ sym (count_by_push_no (begins t) b x refl);
  ended = length_push E u ∙ omega (arith, r.ended, count_by_push_yes (ends_one at t) b x ended_one);
  used_up = λ unstopped has. r.used_up (sym (count_by_push_no (stops_one at t) b x refl) ∙ unstopped) has ∙ sym (count_by_push_no (uses is_strong t) b x refl);
  opened = λ n work still is. absurd (rests_closed t b x start refl busy closed n still);
  answered = λ k ins w at_k end_k. by_place k ins w at_k (get_push E u k w end_k);
}
  where
    t : ℕ
    t = a.task

    u : TaskEnd V
    u = record { value = a.v; gives = gives }

    x : Entry
    x = End start gives inner

    is_its : is_task t (at start) ≡ true
    is_its = let hit : eqb a.task a.task ≡ true = grind (arith, nat_tests) in ap (is_task t) a.of_task ∙ hit

    ended_one : ends_one at t x ≡ true
    ended_one = is_its

    runs : runs_at t b start ≡ true
    runs = and_both _ _ (ap (is_task t) (sym (told start (open_stands b start is_opened))) ∙ is_its) is_opened

    busy : RunsAt t b start
    busy = busy_with at t b start runs phase

    closed : eqb start start ≡ true
    closed = grind (arith, nat_tests)

    by_place : (k : ℕ) (ins : List (InputValue V)) (w : TaskEnd V) → slice_get S k ≡ Some ins → (slice_get E k ≡ Some w) ⊎ ((k ≡ length E) × (w ≡ u)) → one t ins ≡ Some w
    by_place k ins w at_k (inl old) = r.answered k ins w at_k old
    by_place k ins w at_k (inr last) =
        let was = r.opened start a.work runs a.found in
        let same : Some ins ≡ Some a.work.found = sym at_k ∙ ap (slice_get S) last.0 ∙ was.1 in
        let same_ins : ins ≡ a.work.found = same_Some _ _ same in
        ap (one t) same_ins ∙ ap (λ s. one s a.work.found) (sym was.0) ∙ a.answered ∙ ap Some (sym last.1)

-- the tokens of an edge so far: as many as were given, and the last of them is what is found at the edge
pub record Held {V : Type 0} (net : NetRows) (values : List (ValueRow V)) (e : ℕ) (b : List Entry) (ts : List (InputValue V)) : Type 0 where
  pub count : length ts ≡ given net e b
  pub last : (k : ℕ) → k + 1 ≡ given net e b → slice_get ts k ≡ Some (found_at values (last_part e b))

only_at : {X : Type 0} (x : X) (k : ℕ) → k ≡ 0 → slice_get (x ∷ []) k ≡ Some x
only_at x zero is = refl
only_at x (suc k) is = absurd (omega arith)

held_first : {V : Type 0} (net : NetRows) (values : List (ValueRow V)) (e : ℕ) → Held net values e [] (begun net e ++ [])
held_first {V} net values e = by_row (slice_get net.edges e) refl
  where
    by_row : (row : Option EdgeRow) → slice_get net.edges e ≡ row → Held net values e [] (begun net e ++ [])
    by_row None is =
        let none : begun {V = V} net e ≡ [] = ap (λ o. option_map_or (λ (r : EdgeRow). cond r.start (first ∷ []) []) o []) is in
        let no_tokens : first_tokens net e ≡ 0 = ap (λ o. option_map_or (λ (r : EdgeRow). cond r.start 1 0) o 0) is in
        record { count = ap length (append-nil (begun {V = V} net e) ∙ none) ∙ omega (arith, no_tokens); last = λ k here. absurd (omega (arith, no_tokens, here)) }
    by_row (Some row) is = by_start row.start refl
      where
        by_start : (s : Bool) → row.start ≡ s → Held net values e [] (begun net e ++ [])
        by_start true starts =
            let one : begun {V = V} net e ≡ first ∷ [] = ap (λ o. option_map_or (λ (r : EdgeRow). cond r.start (first ∷ []) []) o []) is ∙ ap (λ s. cond s (first ∷ []) []) starts in
            let one_token : first_tokens net e ≡ 1 = ap (λ o. option_map_or (λ (r : EdgeRow). cond r.start 1 0) o 0) is ∙ ap (λ s. cond s 1 0) starts in
            let same : begun {V = V} net e ++ [] ≡ first ∷ [] = append-nil (begun {V = V} net e) ∙ one in
            record { count = ap length same ∙ omega (arith, one_token); last = λ k here. let zeroth : k ≡ 0 = omega (arith, one_token, here) in ap (λ ts. slice_get ts k) same ∙ only_at first k zeroth }
        by_start false starts =
            let none : begun {V = V} net e ≡ [] = ap (λ o. option_map_or (λ (r : EdgeRow). cond r.start (first ∷ []) []) o []) is ∙ ap (λ s. cond s (first ∷ []) []) starts in
            let no_tokens : first_tokens net e ≡ 0 = ap (λ o. option_map_or (λ (r : EdgeRow). cond r.start 1 0) o 0) is ∙ ap (λ s. cond s 1 0) starts in
            record { count = ap length (append-nil (begun {V = V} net e) ∙ none) ∙ omega (arith, no_tokens); last = λ k here. absurd (omega (arith, no_tokens, here)) }

held_still : {V : Type 0} (net : NetRows) (values : List (ValueRow V)) (e : ℕ) (b : List Entry) (x : Entry) (ts : List (InputValue V)) → gives_edge e x ≡ false → Held net values e b ts → Held net values e (b ++ x ∷ []) ts
held_still net values e b x ts no_gift held =
    let same_given : given net e (b ++ x ∷ []) ≡ given net e b = given_push net e b x ∙ ap (λ g. given net e b + cond g 1 0) no_gift ∙ omega arith in
    let same_part : last_part e (b ++ x ∷ []) ≡ last_part e b = last_part_push e b x ∙ ap (λ g. cond g (From (length b)) (last_part e b)) no_gift in
    record { count = held.count ∙ sym same_given; last = λ k here. held.last k (here ∙ same_given) ∙ ap (λ p. Some (found_at values p)) (sym same_part) }

held_given : {V : Type 0} (net : NetRows) (values : List (ValueRow V)) (e : ℕ) (b : List Entry) (x : Entry) (v : V) (ts : List (InputValue V)) → gives_edge e x ≡ true → value_at values (length b) ≡ Some v
    → Held net values e b ts → Held net values e (b ++ x ∷ []) (ts ++ value v ∷ [])
held_given net values e b x v ts gift is held =
    let more : given net e (b ++ x ∷ []) ≡ given net e b + 1 = given_push net e b x ∙ ap (λ g. given net e b + cond g 1 0) gift in
    let part : last_part e (b ++ x ∷ []) ≡ From (length b) = last_part_push e b x ∙ ap (λ g. cond g (From (length b)) (last_part e b)) gift in
    record {
      count = length_push ts (value v) ∙ omega (arith, held.count, more);
      last = λ k here.
          let at_end : k ≡ length ts = omega (arith, held.count, more, here) in
          ap (λ m. slice_get (ts ++ value v ∷ []) m) at_end ∙ slice_get_push_last ts (value v) ∙ sym (ap (λ p. Some (found_at values p)) part ∙ ap (λ o. Some (found_by o)) is);
    }

-- what an End of the edge's source adds to the edge's tokens
tokens_more : {V : Type 0} (net : NetRows) (e : ℕ) (us ws : List (TaskEnd V)) → tokens net e (us ++ ws) ≡ tokens net e us ++ map (λ (end : TaskEnd V). value end.value) (filter (λ (end : TaskEnd V). list_any (λ g. g == e) end.gives) ws)
tokens_more {V} net e us ws =
    ap (λ zs. begun net e ++ map (λ (end : TaskEnd V). value end.value) zs) (filter_append (λ (end : TaskEnd V). list_any (λ g. g == e) end.gives) us ws)
    ∙ ap (λ zs. begun net e ++ zs) (map_append (λ (end : TaskEnd V). value end.value) (filter (λ (end : TaskEnd V). list_any (λ g. g == e) end.gives) us) (filter (λ (end : TaskEnd V). list_any (λ g. g == e) end.gives) ws))
    ∙ sym (append_assoc (begun net e) _ _)

-- an End is one of its task, and none of another
pub end_is : {V : Type 0} (net : NetRows) (one : OneAnswer V) (values : List (ValueRow V)) (at : ℕ → Option ℕ) (b : List Entry) (start : ℕ) (gives : List ℕ) (inner : Bool) (a : EndAt net one values at b start gives) (t : ℕ)
    → end_of values at t (length b) (End start gives inner) ≡ cond (a.task == t) ((record { value = a.v; gives = gives }) ∷ []) []
end_is {V} net one values at b start gives inner a t =
    ap (λ (o : Option V). elim o as (λ _. List (TaskEnd V)) [ None ↦ [] | Some v ↦ cond (is_task t (at start)) ((record { value = v; gives = gives }) ∷ []) [] ]) a.value
    ∙ ap (λ (o : Option ℕ). cond (is_task t o) ((record { value = a.v; gives = gives }) ∷ []) []) a.of_task

-- an End gives edges that leave its task
pub gift_leaves : {V : Type 0} (net : NetRows) (one : OneAnswer V) (values : List (ValueRow V)) (at : ℕ → Option ℕ) (b : List Entry) (start : ℕ) (gives : List ℕ) (a : EndAt net one values at b start gives) (e : ℕ)
    → list_any (λ g. g == e) gives ≡ true → source_of net e ≡ a.task
gift_leaves net one values at b start gives a e gift = by_fit a.fit
  where
    by_row : (row : Option EdgeRow) → option_map_or (λ (r : EdgeRow). r.from == a.task) row false ≡ true → option_map_or (λ (r : EdgeRow). r.from) row 0 ≡ a.task
    by_row None h = absurd (false≢true h)
    by_row (Some row) h = grind (arith, nat_tests)

    by_fit : (gives ≡ out_edges net a.task) ⊎ (gives ≡ []) → source_of net e ≡ a.task
    by_fit (inl all) = by_row (slice_get net.edges e) (sym (any_place (λ (r : EdgeRow). r.from == a.task) e net.edges) ∙ sym (ap (λ gs. list_any (λ g. g == e) gs) all) ∙ gift)
    by_fit (inr none) = absurd (false≢true (sym (ap (λ gs. list_any (λ g. g == e) gs) none) ∙ gift))

-- what is kept along the journal
pub record Kept {V : Type 0} (net : NetRows) (one : OneAnswer V) (values : List (ValueRow V)) (at : ℕ → Option ℕ) (b : List Entry) : Type 0 where
  pub ran : (t : ℕ) → Ran net one values at t b (starts_in values t b) (ends_in values at t b)
  pub held : (e : ℕ) → Held net values e b (tokens_in net values at e b)
  pub finds : (t k : ℕ) (ins : List (InputValue V)) → slice_get (starts_in values t b) k ≡ Some ins → AllZip (λ e f. slice_get (tokens_in net values at e b) k ≡ Some f) (strong_in net t) ins

pub kept_first : {V : Type 0} (net : NetRows) (one : OneAnswer V) (values : List (ValueRow V)) (at : ℕ → Option ℕ) → Kept net one values at []
kept_first net one values at = record {
  ran = λ t. record {
    begun = refl;
    ended = refl;
    used_up = λ unstopped has. refl;
    opened = λ n work runs is. absurd (cc);
    answered = λ k ins u at_k end_k. absurd (cc);
  };
  held = λ e. held_first net values e;
  finds = λ t k ins at_k. absurd (cc);
}

-- the tokens of an edge after an entry
tokens_push : {V : Type 0} (net : NetRows) (values : List (ValueRow V)) (at : ℕ → Option ℕ) (e : ℕ) (b : List Entry) (x : Entry)
    → tokens_in net values at e (b ++ x ∷ []) ≡ tokens_in net values at e b ++ map (λ (end : TaskEnd V). value end.value) (filter (λ (end : TaskEnd V). list_any (λ g. g == e) end.gives) (end_of values at (source_of net e) (length b) x))
tokens_push net values at e b x = ap (tokens net e) (gather_push (end_of values at (source_of net e)) b x) ∙ tokens_more net e (ends_in values at (source_of net e) b) (end_of values at (source_of net e) (length b) x)

-- an entry that is no End leaves the tokens
held_no_end : {V : Type 0} (net : NetRows) (values : List (ValueRow V)) (at : ℕ → Option ℕ) (e : ℕ) (b : List Entry) (x : Entry) → gives_edge e x ≡ false → end_of values at (source_of net e) (length b) x ≡ []
    → Held net values e b (tokens_in net values at e b) → Held net values e (b ++ x ∷ []) (tokens_in net values at e (b ++ x ∷ []))
held_no_end {V} net values at e b x no_gift no_end held =
    let same : tokens_in net values at e (b ++ x ∷ []) ≡ tokens_in net values at e b =
    tokens_push net values at e b x ∙ ap (λ us. tokens_in net values at e b ++ map (λ (end : TaskEnd V). value end.value) (filter (λ (end : TaskEnd V). list_any (λ g. g == e) end.gives) us)) no_end ∙ append-nil (tokens_in net values at e b) in
    subst (λ ts. Held net values e (b ++ x ∷ []) ts) (sym same) (held_still net values e b x _ no_gift held)

held_end : {V : Type 0} (net : NetRows) (one : OneAnswer V) (values : List (ValueRow V)) (at : ℕ → Option ℕ) (e : ℕ) (b : List Entry) (start : ℕ) (gives : List ℕ) (inner : Bool) → EndAt net one values at b start gives
    → Held net values e b (tokens_in net values at e b) → Held net values e (b ++ End start gives inner ∷ []) (tokens_in net values at e (b ++ End start gives inner ∷ []))
held_end {V} net one values at e b start gives inner a held = by_gift (list_any (λ g. g == e) gives) refl
  where
    x : Entry
    x = End start gives inner

    u : TaskEnd V
    u = record { value = a.v; gives = gives }

    after : tokens_in net values at e (b ++ x ∷ []) ≡ tokens_in net values at e b ++ map (λ (end : TaskEnd V). value end.value) (filter (λ (end : TaskEnd V). list_any (λ g. g == e) end.gives) (cond (a.task == source_of net e) (u ∷ []) []))
    after = tokens_push net values at e b x ∙ ap (λ us. tokens_in net values at e b ++ map (λ (end : TaskEnd V). value end.value) (filter (λ (end : TaskEnd V). list_any (λ g. g == e) end.gives) us)) (end_is net one values at b start gives inner a (source_of net e))

    added : (own : Bool) (gift : Bool) → list_any (λ g. g == e) gives ≡ gift → (gift ≡ true → own ≡ true)
        → map (λ (end : TaskEnd V). value end.value) (filter (λ (end : TaskEnd V). list_any (λ g. g == e) end.gives) (cond own (u ∷ []) [])) ≡ cond gift (value a.v ∷ []) []
    added true gift is its = ap (λ g. map (λ (end : TaskEnd V). value end.value) (cond g (u ∷ []) [])) is ∙ both_ways gift
      where
        both_ways : (g : Bool) → map (λ (end : TaskEnd V). value end.value) (cond g (u ∷ []) []) ≡ cond g (value a.v ∷ []) []
        both_ways true = refl
        both_ways false = refl
    added false true is its = absurd (false≢true (its refl))
    added false false is its = refl

    its : list_any (λ g. g == e) gives ≡ true → eqb a.task (source_of net e) ≡ true
    its gift = let same : source_of net e ≡ a.task = gift_leaves net one values at b start gives a e gift in grind (arith, nat_tests)

    by_gift : (gift : Bool) → list_any (λ g. g == e) gives ≡ gift → Held net values e (b ++ x ∷ []) (tokens_in net values at e (b ++ x ∷ []))
    by_gift true gift =
        subst (λ ts. Held net values e (b ++ x ∷ []) ts) (sym (after ∙ ap (λ ws. tokens_in net values at e b ++ ws) (added (a.task == source_of net e) true gift (λ _. its gift))))
        (held_given net values e b x a.v _ gift a.value held)
    by_gift false no_gift =
        subst (λ ts. Held net values e (b ++ x ∷ []) ts) (sym (after ∙ ap (λ ws. tokens_in net values at e b ++ ws) (added (a.task == source_of net e) false no_gift (λ h. absurd (false≢true h))) ∙ append-nil (tokens_in net values at e b)))
        (held_still net values e b x _ no_gift held)

-- what a task started and ended, after an entry
ran_to : {V : Type 0} (net : NetRows) (one : OneAnswer V) (values : List (ValueRow V)) (at : ℕ → Option ℕ) (t : ℕ) (b : List Entry) (x : Entry) (S : List (List (InputValue V))) (E : List (TaskEnd V))
    → starts_in values t (b ++ x ∷ []) ≡ S → ends_in values at t (b ++ x ∷ []) ≡ E
    → Ran net one values at t (b ++ x ∷ []) S E → Ran net one values at t (b ++ x ∷ []) (starts_in values t (b ++ x ∷ [])) (ends_in values at t (b ++ x ∷ []))
ran_to net one values at t b x S E s e r = subst (λ S2. Ran net one values at t (b ++ x ∷ []) S2 (ends_in values at t (b ++ x ∷ []))) (sym s) (subst (λ E2. Ran net one values at t (b ++ x ∷ []) S E2) (sym e) r)

starts_more : {V : Type 0} (values : List (ValueRow V)) (t : ℕ) (b : List Entry) (x : Entry) (new : List (List (InputValue V))) → start_of values t (length b) x ≡ new → starts_in values t (b ++ x ∷ []) ≡ starts_in values t b ++ new
starts_more values t b x new is = gather_push (start_of values t) b x ∙ ap (λ ss. starts_in values t b ++ ss) is

pub starts_same : {V : Type 0} (values : List (ValueRow V)) (t : ℕ) (b : List Entry) (x : Entry) → start_of values t (length b) x ≡ [] → starts_in values t (b ++ x ∷ []) ≡ starts_in values t b
starts_same values t b x none = starts_more values t b x [] none ∙ append-nil (starts_in values t b)

pub ends_more : {V : Type 0} (values : List (ValueRow V)) (at : ℕ → Option ℕ) (t : ℕ) (b : List Entry) (x : Entry) (new : List (TaskEnd V)) → end_of values at t (length b) x ≡ new → ends_in values at t (b ++ x ∷ []) ≡ ends_in values at t b ++ new
ends_more values at t b x new is = gather_push (end_of values at t) b x ∙ ap (λ us. ends_in values at t b ++ us) is

pub ends_same : {V : Type 0} (values : List (ValueRow V)) (at : ℕ → Option ℕ) (t : ℕ) (b : List Entry) (x : Entry) → end_of values at t (length b) x ≡ [] → ends_in values at t (b ++ x ∷ []) ≡ ends_in values at t b
ends_same values at t b x none = ends_more values at t b x [] none ∙ append-nil (ends_in values at t b)

ran_still : {V : Type 0} (net : NetRows) (one : OneAnswer V) (values : List (ValueRow V)) (at : ℕ → Option ℕ) (t : ℕ) (b : List Entry) (x : Entry) → start_of values t (length b) x ≡ [] → end_of values at t (length b) x ≡ []
    → begins t x ≡ false → ends_one at t x ≡ false → (count_by (stops_one at t) (b ++ x ∷ []) ≡ 0 → used t (b ++ x ∷ []) ≡ used t b)
    → Ran net one values at t b (starts_in values t b) (ends_in values at t b) → Ran net one values at t (b ++ x ∷ []) (starts_in values t (b ++ x ∷ [])) (ends_in values at t (b ++ x ∷ []))
ran_still net one values at t b x no_start no_end none none_ends used_same r =
    ran_to net one values at t b x (starts_in values t b) (ends_in values at t b) (starts_same values t b x no_start) (ends_same values at t b x no_end) (ran_quiet net one values at t b x _ _ none none_ends used_same r)

ran_step : {V : Type 0} (net : NetRows) (one : OneAnswer V) (values : List (ValueRow V)) (at : ℕ → Option ℕ) (t : ℕ) (b : List Entry) (x : Entry) → ((e : ℕ) → is_weak net e ≡ false) → StepAt net one values at b x
    → Ran net one values at t b (starts_in values t b) (ends_in values at t b) → Ran net one values at t (b ++ x ∷ []) (starts_in values t (b ++ x ∷ [])) (ends_in values at t (b ++ x ∷ []))
ran_step net one values at t b (Start task cause ins) strong step r = by_task (cases_eq task t)
  where
    x : Entry
    x = Start task cause ins

    by_task : (task ≡ t) ⊎ (task ≢ t) → Ran net one values at t (b ++ x ∷ []) (starts_in values t (b ++ x ∷ [])) (ends_in values at t (b ++ x ∷ []))
    by_task (inl same) =
        let hit : eqb task t ≡ true = grind (arith, nat_tests) in
        ran_to net one values at t b x (starts_in values t b ++ found_ins values ins ∷ []) (ends_in values at t b)
        (starts_more values t b x (found_ins values ins ∷ []) (ap (λ h. cond h (found_ins values ins ∷ []) []) hit)) (ends_same values at t b x refl)
        (subst (λ s. Ran net one values at t (b ++ Start s cause ins ∷ []) (starts_in values t b ++ found_ins values ins ∷ []) (ends_in values at t b)) (sym same)
        (ran_start net one values at t b cause ins (starts_in values t b) (ends_in values at t b) strong (told_before at b x step.told) step.behind (subst (λ s. MayStart s b) same step.start) (step.phases t) (subst (λ s. IsReleased net b s cause) same step.release) r))
    by_task (inr other) =
        let miss : eqb task t ≡ false = grind (arith, nat_tests) in
        ran_still net one values at t b x (ap (λ h. cond h (found_ins values ins ∷ []) []) miss) refl miss refl (λ unstopped. count_by_push_no (uses is_strong t) b x (ap (λ h. h && is_strong cause) miss)) r
ran_step {V} net one values at t b (End start gives inner) strong step r = by_task (cases_eq step.well.task t)
  where
    x : Entry
    x = End start gives inner

    a : EndAt net one values at b start gives
    a = step.well

    u : TaskEnd V
    u = record { value = a.v; gives = gives }

    told : Told at b
    told = told_before at b x step.told

    by_task : (a.task ≡ t) ⊎ (a.task ≢ t) → Ran net one values at t (b ++ x ∷ []) (starts_in values t (b ++ x ∷ [])) (ends_in values at t (b ++ x ∷ []))
    by_task (inl same) =
        let hit : eqb a.task a.task ≡ true = grind (arith, nat_tests) in
        subst (λ s. Ran net one values at s (b ++ x ∷ []) (starts_in values s (b ++ x ∷ [])) (ends_in values at s (b ++ x ∷ []))) same
        (ran_to net one values at a.task b x (starts_in values a.task b) (ends_in values at a.task b ++ u ∷ []) (starts_same values a.task b x refl)
        (ends_more values at a.task b x (u ∷ []) (end_is net one values at b start gives inner a a.task ∙ ap (λ h. cond h (u ∷ []) []) hit))
        (ran_end net one values at b start gives inner a (starts_in values a.task b) (ends_in values at a.task b) told (step.phases a.task) step.closing
        (subst (λ s. Ran net one values at s b (starts_in values s b) (ends_in values at s b)) (sym same) r)))
    by_task (inr other) =
        let miss : eqb a.task t ≡ false = grind (arith, nat_tests) in
        ran_still net one values at t b x refl (end_is net one values at b start gives inner a t ∙ ap (λ h. cond h (u ∷ []) []) miss) refl (ap (is_task t) a.of_task ∙ miss) (λ unstopped. count_by_push_no (uses is_strong t) b x refl) r
ran_step net one values at t b (Fault start why) strong step r = ran_still net one values at t b (Fault start why) refl refl refl refl (λ unstopped. count_by_push_no (uses is_strong t) b (Fault start why) refl) r
ran_step net one values at t b (Drop task cause why) strong step r = by_task (cases_eq task t)
  where
    x : Entry
    x = Drop task cause why

    by_task : (task ≡ t) ⊎ (task ≢ t) → Ran net one values at t (b ++ x ∷ []) (starts_in values t (b ++ x ∷ [])) (ends_in values at t (b ++ x ∷ []))
    by_task (inl same) =
        let hit : eqb task t ≡ true = grind (arith, nat_tests) in
        ran_still net one values at t b x refl refl refl refl (λ unstopped. absurd (omega (arith, unstopped, count_by_push_yes (stops_one at t) b x hit))) r
    by_task (inr other) =
        let miss : eqb task t ≡ false = grind (arith, nat_tests) in
        ran_still net one values at t b x refl refl refl refl (λ unstopped. count_by_push_no (uses is_strong t) b x (ap (λ h. h && is_strong cause) miss)) r

-- what a strong in-edge of a task is
strong_edge : (net : NetRows) (t : ℕ) (b : List Entry) → ((e : ℕ) → is_weak net e ≡ false) → AllByRecursion (λ e. (e < length net.edges) × (used_at net e b ≡ used t b)) (strong_in net t)
strong_edge net t b strong = all_places (λ (row : EdgeRow). (row.to == t) && not (is_weak_row net row)) (λ e. (e < length net.edges) × (used_at net e b ≡ used t b)) net.edges each
  where
    each : (e : ℕ) (row : EdgeRow) → slice_get net.edges e ≡ Some row → (row.to == t) && not (is_weak_row net row) ≡ true → (e < length net.edges) × (used_at net e b ≡ used t b)
    each e row is passes =
        let same : row.to ≡ t = let hit : eqb row.to t ≡ true = and_left _ _ passes in grind (arith, nat_tests) in (
          slice_get_within net.edges e row is,
          ap (λ w. cond w (used_weak e b) (option_map_or (λ (r : EdgeRow). used r.to b) (slice_get net.edges e) 0)) (strong e) ∙ ap (λ o. option_map_or (λ (r : EdgeRow). used r.to b) o 0) is ∙ ap (λ s. used s b) same,
        )

-- tokens stay where they are
tokens_stay : {V : Type 0} (net : NetRows) (values : List (ValueRow V)) (at : ℕ → Option ℕ) (e k : ℕ) (f : InputValue V) (b : List Entry) (x : Entry) → slice_get (tokens_in net values at e b) k ≡ Some f → slice_get (tokens_in net values at e (b ++ x ∷ [])) k ≡ Some f
tokens_stay net values at e k f b x h = ap (λ ts. slice_get ts k) (tokens_push net values at e b x) ∙ get_append (tokens_in net values at e b) _ k f h

-- what a new Start finds is the next part of each of its in-edges
finds_new : {V : Type 0} (net : NetRows) (one : OneAnswer V) (values : List (ValueRow V)) (at : ℕ → Option ℕ) (t : ℕ) (b : List Entry) (cause : Cause) (ins : List Part) → ((e : ℕ) → is_weak net e ≡ false)
    → count_by (stops_one at t) b ≡ 0 → IsReleased net b t cause → ((e : ℕ) → e < length net.edges → IsCalm net e b) → AllZip (IsPartAt net b) (edges_of net t cause) ins → Kept net one values at b
    → AllZip (λ e f. slice_get (tokens_in net values at e b) (length (starts_in values t b)) ≡ Some f) (strong_in net t) (found_ins values ins)
finds_new net one values at t b Source ins strong unstopped released calm found kept =
    subst (λ es. AllZip (λ e f. slice_get (tokens_in net values at e b) (length (starts_in values t b)) ≡ Some f) es (found_ins values ins)) (sym (source_strong net t released.0))
    (zip_mapped (found_at values) (IsPartAt net b) (λ e f. slice_get (tokens_in net values at e b) (length (starts_in values t b)) ≡ Some f) [] ins tt found)
finds_new {V} net one values at t b Strong ins strong unstopped released calm found kept =
    zip_mapped (found_at values) (IsPartAt net b) (λ e f. slice_get (tokens_in net values at e b) k ≡ Some f) (strong_in net t) ins
    (all_weaken (λ e. ((e < length net.edges) × (used_at net e b ≡ used t b)) × (used t b + 1 ≤ given net e b)) _ each (strong_in net t)
    (all_both _ _ (strong_in net t) (strong_edge net t b strong) released.1)) found
  where
    k : ℕ
    k = length (starts_in values t b)

    used_k : k ≡ used t b
    used_k = (kept.ran t).used_up unstopped released.0

    each : (e : ℕ) → ((e < length net.edges) × (used_at net e b ≡ used t b)) × (used t b + 1 ≤ given net e b) → (part : Part) → IsPartAt net b e part → slice_get (tokens_in net values at e b) k ≡ Some (found_at values part)
    each e is part at_e =
        let calm_e : IsCalm net e b = calm e is.0.0 in
        (kept.held e).last k (omega (arith, calm_now net e b calm_e, is.0.1, is.1, used_k)) ∙ ap (λ p. Some (found_at values p)) (sym (at_e.last calm_e))
finds_new net one values at t b (Weak e) ins strong unstopped released calm found kept = absurd (false≢true (sym (strong e) ∙ released.0))

-- one entry more
pub kept_step : {V : Type 0} (net : NetRows) (one : OneAnswer V) (values : List (ValueRow V)) (at : ℕ → Option ℕ) → ((e : ℕ) → is_weak net e ≡ false) → (b : List Entry) (x : Entry) → StepAt net one values at b x → Kept net one values at b → Kept net one values at (b ++ x ∷ [])
kept_step {V} net one values at strong b x step kept = record {
  ran = λ t. ran_step net one values at t b x strong step (kept.ran t);
  held = λ e. held_step e x step;
  finds = λ t k ins at_k. finds_step t k ins x step at_k;
}
  where
    held_step : (e : ℕ) (y : Entry) → StepAt net one values at b y → Held net values e (b ++ y ∷ []) (tokens_in net values at e (b ++ y ∷ []))
    held_step e (Start task cause ins) s = held_no_end net values at e b (Start task cause ins) refl refl (kept.held e)
    held_step e (End start gives inner) s = held_end net one values at e b start gives inner s.well (kept.held e)
    held_step e (Fault start why) s = held_no_end net values at e b (Fault start why) refl refl (kept.held e)
    held_step e (Drop task cause why) s = held_no_end net values at e b (Drop task cause why) refl refl (kept.held e)

    Finds : ℕ → ℕ → List (InputValue V) → List Entry → Type 0
    Finds t k ins c = AllZip (λ e f. slice_get (tokens_in net values at e c) k ≡ Some f) (strong_in net t) ins

    stay : (t k : ℕ) (ins : List (InputValue V)) (y : Entry) → Finds t k ins b → Finds t k ins (b ++ y ∷ [])
    stay t k ins y = zip_weaken _ _ (λ e f. tokens_stay net values at e k f b y) (strong_in net t) ins

    old : (t k : ℕ) (ins : List (InputValue V)) (y : Entry) → start_of values t (length b) y ≡ [] → slice_get (starts_in values t (b ++ y ∷ [])) k ≡ Some ins → Finds t k ins (b ++ y ∷ [])
    old t k ins y none at_k = stay t k ins y (kept.finds t k ins (sym (ap (λ ss. slice_get ss k) (starts_same values t b y none)) ∙ at_k))

    finds_step : (t k : ℕ) (ins : List (InputValue V)) (y : Entry) → StepAt net one values at b y → slice_get (starts_in values t (b ++ y ∷ [])) k ≡ Some ins → Finds t k ins (b ++ y ∷ [])
    finds_step t k ins (Start task cause parts) s at_k = by_task (cases_eq task t)
      where
        y : Entry
        y = Start task cause parts

        by_place : (task ≡ t) → (slice_get (starts_in values t b) k ≡ Some ins) ⊎ ((k ≡ length (starts_in values t b)) × (ins ≡ found_ins values parts)) → Finds t k ins (b ++ y ∷ [])
        by_place same (inl before) = stay t k ins y (kept.finds t k ins before)
        by_place same (inr last) =
            let may : MayStart t b = subst (λ r. MayStart r b) same s.start in
            let told : Told at b = told_before at b y s.told in
            let unstopped : count_by (stops_one at t) b ≡ 0 = s.behind.settled t (λ n. is_task t (at n)) (λ n. is_task t (start_at b n)) (λ n below. ap (is_task t) (told n below)) ∙ may.none_stopped in
            let new : Finds t (length (starts_in values t b)) (found_ins values parts) b =
            finds_new net one values at t b cause parts strong unstopped (subst (λ r. IsReleased net b r cause) same s.release) s.calm (subst (λ r. AllZip (IsPartAt net b) (edges_of net r cause) parts) same s.data_rule) kept in
            stay t k ins y (subst (λ m. Finds t m ins b) (sym last.0) (subst (λ js. Finds t (length (starts_in values t b)) js b) (sym last.1) new))

        by_task : (task ≡ t) ⊎ (task ≢ t) → Finds t k ins (b ++ y ∷ [])
        by_task (inl same) =
            let hit : eqb task t ≡ true = grind (arith, nat_tests) in
            by_place same (get_push (starts_in values t b) (found_ins values parts) k ins
            (sym (ap (λ ss. slice_get ss k) (starts_more values t b y (found_ins values parts ∷ []) (ap (λ h. cond h (found_ins values parts ∷ []) []) hit))) ∙ at_k))
        by_task (inr other) =
            let miss : eqb task t ≡ false = grind (arith, nat_tests) in
            old t k ins y (ap (λ h. cond h (found_ins values parts ∷ []) []) miss) at_k
    finds_step t k ins (End start gives inner) s at_k = old t k ins (End start gives inner) refl at_k
    finds_step t k ins (Fault start why) s at_k = old t k ins (Fault start why) refl at_k
    finds_step t k ins (Drop task cause why) s at_k = old t k ins (Drop task cause why) refl at_k
