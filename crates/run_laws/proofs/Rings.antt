-- Each legal journal of a net of rings is steady: a ring carries one token or one open Start at most, and a Drop
-- or a Fault takes the token for good.
use Rattle.std.proofs.Common.{◌≡◌, ◌≢◌, ◌⊎◌, inl, inr, ℕ, ◌+◌, ◌<◌, ◌≤◌, Bool, true, false, not, ◌&&◌, ◌||◌, cond, eqb, List, [], ◌∷◌, ◌++◌, length, Option, Some, None, sym, refl, ap, ◌∙◌, subst, arith}
use Rattle.std.specs.Prelude.{slice_get, count_by, sum_by, ◌==◌}
use Rattle.std.specs.Option.{option_map_or}
use Rattle.std.specs.List.{AllByRecursion, list_any}
use Rattle.std.proofs.lemmas.Bool.Decides.{nat_tests}
use Rattle.std.proofs.lemmas.Bool.{cases_eq, false≢true}
use Rattle.std.proofs.lemmas.List.Sums.{sum_by-cons}
use Rattle.std.proofs.lemmas.Option.{slice_get_within, slice_get-get_or}
use Rattle.task_graph.specs.NetRows.{NetRows}
use Rattle.task_graph.specs.Net.{is_weak_row, strong_in}
use Rattle.task_graph.specs.declared.net.EdgeRow.{EdgeRow}
use Rattle.journal_rules.specs.declared.entry.Entry.{Entry}
use Rattle.journal_rules.specs.declared.entry.Entry.TheVariants.{Start, End, Fault, Drop}
use Rattle.journal_rules.specs.declared.entry.Cause.{Cause}
use Rattle.journal_rules.specs.declared.entry.Cause.TheVariants.{Source, Strong, Weak}
use Rattle.journal_rules.specs.declared.entry.Part.{Part}
use Rattle.journal_rules.specs.declared.entry.Why.{Why}
use Rattle.journal_rules.specs.declared.entry.DropWhy.{DropWhy}
use Rattle.journal_rules.specs.Counts.{given, gives_edge, first_tokens, used, used_weak, uses, is_strong, start_at}
use Rattle.journal_rules.specs.ReleaseRule.{IsReleased}
use Rattle.journal_rules.specs.Calm.{IsCalm, used_at}
use Rattle.journal_rules.specs.Entries.{EachAfterThese}
use Rattle.journal_rules.specs.ShapeLegal.{ShapeLegal, MayFollow}
use Rattle.journal_rules.proofs.Snoc.{count_by_push}
use Rattle.journal_rules.proofs.Tallying.{count_by_push_no, given_push}
use Rattle.journal_rules.proofs.NetLemmas.{any_place}
use Rattle.journal_rules.proofs.Reaching.{each_below}
use Rattle.run_laws.specs.OneThreadValue.{source_of, target_of}
use Rattle.run_laws.specs.Ends.{is_task}
use Rattle.run_laws.specs.Steady.{Steady, StartRule}
use Rattle.run_laws.specs.Rings.{IsRing, RingOf, IsRinged}
use Rattle.run_laws.proofs.Along.{along, both, weaker, each_front, Told, told_before}
use Rattle.run_laws.proofs.Lists.{all_places, all_weaken}
use Rattle.run_laws.proofs.Phases.{rests_when, may_start, begins, ends_one, faults_one, stops_one, closed, closed_few, and_left, and_both}
use Rattle.run_laws.proofs.Values.{source_strong}
use Rattle.run_laws.proofs.Legally.{Placed, placed_first, placed_step}
use Rattle.run_laws.proofs.Once.{calm_push_one, gift_source}

-- sums over the edges of a ring
sum_most : (f g d : ℕ → ℕ) (xs : List ℕ) → AllByRecursion (λ e. f e ≤ g e + d e) xs → sum_by f xs ≤ sum_by g xs + sum_by d xs
sum_most f g d [] each = omega arith
sum_most f g d (x ∷ xs) each = omega (arith, sum_by-cons f x xs, sum_by-cons g x xs, sum_by-cons d x xs, each.0, sum_most f g d xs each.1)

sum_least : (f g d : ℕ → ℕ) (xs : List ℕ) → AllByRecursion (λ e. g e + d e ≤ f e) xs → sum_by g xs + sum_by d xs ≤ sum_by f xs
sum_least f g d [] each = omega arith
sum_least f g d (x ∷ xs) each = omega (arith, sum_by-cons f x xs, sum_by-cons g x xs, sum_by-cons d x xs, each.0, sum_least f g d xs each.1)

sum_below : (f g : ℕ → ℕ) (xs : List ℕ) → AllByRecursion (λ e. g e ≤ f e) xs → sum_by g xs ≤ sum_by f xs
sum_below f g [] each = omega arith
sum_below f g (x ∷ xs) each = omega (arith, sum_by-cons f x xs, sum_by-cons g x xs, each.0, sum_below f g xs each.1)

-- where a sum is at most one above another and no item of it is below the other's, each item is at most one above
one_above : (f g : ℕ → ℕ) (e : ℕ) (xs : List ℕ) → AllByRecursion (λ x. g x ≤ f x) xs → sum_by f xs ≤ sum_by g xs + 1 → list_any (λ x. x == e) xs ≡ true → f e ≤ g e + 1
one_above f g e [] each sums has = absurd (false≢true has)
one_above f g e (x ∷ xs) each sums has = by_head (cases_eq x e) has (one_above f g e xs each.1 (omega (arith, sum_by-cons f x xs, sum_by-cons g x xs, each.0, sums)))
  where
    by_head : (x ≡ e) ⊎ (x ≢ e) → eqb x e || list_any (λ y. y == e) xs ≡ true → (list_any (λ y. y == e) xs ≡ true → f e ≤ g e + 1) → f e ≤ g e + 1
    by_head (inl same) h rest = subst (λ y. f y ≤ g y + 1) same (omega (arith, sum_by-cons f x xs, sum_by-cons g x xs, sum_below f g xs each.1))
    by_head (inr other) h rest =
        let miss : eqb x e ≡ false = grind (arith, nat_tests) in
        rest (sym (ap (λ b. b || list_any (λ y. y == e) xs) miss) ∙ h)

-- what an edge brings to its ring and takes from it: its tokens, and its target's Starts, Drops and Faults
abbrev pub brings : NetRows → (ℕ → Option ℕ) → List Entry → ℕ → ℕ
brings net at b e = given net e b + count_by (begins (target_of net e)) b + count_by (stops_one at (target_of net e)) b

abbrev pub takes : NetRows → (ℕ → Option ℕ) → List Entry → ℕ → ℕ
takes net at b e = used (target_of net e) b + closed at (target_of net e) b

-- what each step keeps
pub record Turning (net : NetRows) (at : ℕ → Option ℕ) (b : List Entry) : Type 0 where
  pub placed : Placed at b
  pub held : (e : ℕ) → e < length net.edges → used (target_of net e) b ≤ given net e b
  pub turns : (ring : List ℕ) → IsRing net ring → sum_by (brings net at b) ring ≤ sum_by (takes net at b) ring + 1
  pub calm : (e : ℕ) → e < length net.edges → IsCalm net e b

-- so each edge of a ring has one token, or its target one open Start or one Drop or Fault
one_on_ring : (net : NetRows) (at : ℕ → Option ℕ) (b : List Entry) → IsRinged net → Placed at b → ((e : ℕ) → e < length net.edges → used (target_of net e) b ≤ given net e b)
    → ((ring : List ℕ) → IsRing net ring → sum_by (brings net at b) ring ≤ sum_by (takes net at b) ring + 1) → (e : ℕ) → e < length net.edges → brings net at b e ≤ takes net at b e + 1
one_on_ring net at b ringed placed held turns e below =
    let r : RingOf net e = ringed.rings e below in
    one_above (brings net at b) (takes net at b) e r.ring
    (all_weaken (λ f. f < length net.edges) (λ f. takes net at b f ≤ brings net at b f) (λ f f_below. omega (arith, held f f_below, closed_few at (target_of net f) b (placed.phases (target_of net f)))) r.ring r.is_ring.in_range)
    (turns r.ring r.is_ring) r.has

-- each strong in-edge of a task is an edge into it
into_task : (net : NetRows) (t : ℕ) → AllByRecursion (λ e. (e < length net.edges) × (target_of net e ≡ t)) (strong_in net t)
into_task net t = all_places (λ (row : EdgeRow). (row.to == t) && not (is_weak_row net row)) (λ e. (e < length net.edges) × (target_of net e ≡ t)) net.edges each
  where
    each : (e : ℕ) (row : EdgeRow) → slice_get net.edges e ≡ Some row → (row.to == t) && not (is_weak_row net row) ≡ true → (e < length net.edges) × (target_of net e ≡ t)
    each e row is passes =
        let hit : eqb row.to t ≡ true = and_left _ _ passes in
        let same : row.to ≡ t = grind (arith, nat_tests) in
        (slice_get_within net.edges e row is, ap (λ o. option_map_or (λ (r : EdgeRow). r.to) o 0) is ∙ same)

-- a released task holds a token of each in-edge, so nothing of it runs and nothing of it was dropped or faulted
record Free (net : NetRows) (at : ℕ → Option ℕ) (b : List Entry) (t : ℕ) : Type 0 where
  all_closed : count_by (begins t) b ≤ closed at t b
  none_stopped : count_by (stops_one at t) b ≡ 0
  edge : ℕ
  below : edge < length net.edges
  into : target_of net edge ≡ t
  token : used t b + 1 ≤ given net edge b

free_when : (net : NetRows) (at : ℕ → Option ℕ) (b : List Entry) (t : ℕ) → IsRinged net → Turning net at b → IsReleased net b t Strong → Free net at b t
free_when net at b t ringed turning released = by_edges (strong_in net t) refl released.1 (into_task net t)
  where
    by_edges : (es : List ℕ) → strong_in net t ≡ es → AllByRecursion (λ e. used t b + 1 ≤ given net e b) es → AllByRecursion (λ e. (e < length net.edges) × (target_of net e ≡ t)) es → Free net at b t
    by_edges [] is held into = absurd (released.0 is)
    by_edges (e ∷ es) is held into =
        let one : brings net at b e ≤ takes net at b e + 1 = one_on_ring net at b ringed turning.placed turning.held turning.turns e into.0.0 in
        let here : given net e b + count_by (begins t) b + count_by (stops_one at t) b ≤ used t b + closed at t b + 1 =
        subst (λ s. given net e b + count_by (begins s) b + count_by (stops_one at s) b ≤ used s b + closed at s b + 1) into.0.1 one in
        let few : closed at t b ≤ count_by (begins t) b = closed_few at t b (turning.placed.phases t) in
        record { all_closed = omega (arith, held.0); none_stopped = omega (arith, held.0); edge = e; below = into.0.0; into = into.0.1; token = held.0 }

pub released_strongly : (net : NetRows) (b : List Entry) (t : ℕ) (cause : Cause) → IsRinged net → t < length net.tasks → IsReleased net b t cause → cause ≡ Strong
released_strongly net b t Source ringed below released = absurd (ringed.fed t below (source_strong net t released.0))
released_strongly net b t Strong ringed below released = refl
released_strongly net b t (Weak e) ringed below released = absurd (false≢true (sym (ringed.strong e) ∙ released.0))

-- the tokens used of an edge
used_is : (net : NetRows) (e : ℕ) (b : List Entry) → IsRinged net → e < length net.edges → used_at net e b ≡ used (target_of net e) b
used_is net e b ringed below = by_row (slice_get net.edges e) refl
  where
    by_row : (row : Option EdgeRow) → slice_get net.edges e ≡ row → used_at net e b ≡ used (target_of net e) b
    by_row None is = let there = slice_get-get_or net.edges e (record { from = 0; to = 0; start = false }) below in absurd (cc)
    by_row (Some row) is =
        ap (λ w. cond w (used_weak e b) (option_map_or (λ (r : EdgeRow). used r.to b) (slice_get net.edges e) 0)) (ringed.strong e)
        ∙ ap (λ o. option_map_or (λ (r : EdgeRow). used r.to b) o 0) is ∙ sym (ap (λ o. used (option_map_or (λ (r : EdgeRow). r.to) o 0) b) is)

-- how an entry changes what edges bring and take
record Changes (net : NetRows) (at : ℕ → Option ℕ) (b : List Entry) (x : Entry) (more less : ℕ → ℕ) : Type 0 where
  brought : (e : ℕ) → brings net at (b ++ x ∷ []) e ≤ brings net at b e + more e
  taken : (e : ℕ) → takes net at b e + less e ≤ takes net at (b ++ x ∷ []) e
  balance : (ring : List ℕ) → IsRing net ring → sum_by more ring ≤ sum_by less ring

all_of : (P : ℕ → Type 0) → ((e : ℕ) → P e) → (xs : List ℕ) → AllByRecursion P xs
all_of P each [] = tt
all_of P each (x ∷ xs) = (each x, all_of P each xs)

turn : (net : NetRows) (limit : ℕ) (at : ℕ → Option ℕ) (b : List Entry) (x : Entry) (more less : ℕ → ℕ) → IsRinged net → Told at (b ++ x ∷ []) → MayFollow net limit b x → StartRule b x
    → Changes net at b x more less → ((e : ℕ) → e < length net.edges → used (target_of net e) (b ++ x ∷ []) ≤ given net e (b ++ x ∷ []))
    → Turning net at b → Turning net at (b ++ x ∷ [])
turn net limit at b x more less ringed told may start changes held turning = record {
  placed = placed;
  held = held;
  turns = turns;
  calm = λ e below. calm_push_one net e b x (turning.calm e below)
      (omega (arith, one_on_ring net at (b ++ x ∷ []) ringed placed held turns e below, used_is net e (b ++ x ∷ []) ringed below, closed_few at (target_of net e) (b ++ x ∷ []) (placed.phases (target_of net e))));
}
  where
    placed : Placed at (b ++ x ∷ [])
    placed = placed_step at b x told may.closing start turning.placed

    turns : (ring : List ℕ) → IsRing net ring → sum_by (brings net at (b ++ x ∷ [])) ring ≤ sum_by (takes net at (b ++ x ∷ [])) ring + 1
    turns ring is_ring =
        omega (
          arith,
          sum_most (brings net at (b ++ x ∷ [])) (brings net at b) more ring (all_of _ changes.brought ring),
          sum_least (takes net at (b ++ x ∷ [])) (takes net at b) less ring (all_of _ changes.taken ring),
          changes.balance ring is_ring,
          turning.turns ring is_ring,
        )

abbrev one_if : Bool → ℕ
one_if b = cond b 1 0

-- what each of a list has, one that is among them has
pub all_any : (P : ℕ → Type 0) (e : ℕ) (xs : List ℕ) → AllByRecursion P xs → list_any (λ x. x == e) xs ≡ true → P e
all_any P e [] all has = absurd (false≢true has)
all_any P e (x ∷ xs) all has = by_head (cases_eq x e) has (all_any P e xs all.1)
  where
    by_head : (x ≡ e) ⊎ (x ≢ e) → eqb x e || list_any (λ y. y == e) xs ≡ true → (list_any (λ y. y == e) xs ≡ true → P e) → P e
    by_head (inl same) h rest = subst P same all.0
    by_head (inr other) h rest = let miss : eqb x e ≡ false = grind (arith, nat_tests) in rest (sym (ap (λ b. b || list_any (λ y. y == e) xs) miss) ∙ h)

-- each edge into a task is one of its strong in-edges
pub among_strong : (net : NetRows) (e : ℕ) → IsRinged net → e < length net.edges → list_any (λ f. f == e) (strong_in net (target_of net e)) ≡ true
among_strong net e ringed below = any_place (λ (r : EdgeRow). (r.to == target_of net e) && not (is_weak_row net r)) e net.edges ∙ by_row (slice_get net.edges e) refl
  where
    by_row : (row : Option EdgeRow) → slice_get net.edges e ≡ row → option_map_or (λ (r : EdgeRow). (r.to == target_of net e) && not (is_weak_row net r)) row false ≡ true
    by_row None is = let there = slice_get-get_or net.edges e (record { from = 0; to = 0; start = false }) below in absurd (cc)
    by_row (Some row) is =
        let to_is : target_of net e ≡ row.to = ap (λ o. option_map_or (λ (r : EdgeRow). r.to) o 0) is in
        let hit : eqb row.to (target_of net e) ≡ true = grind (arith, nat_tests) in
        let strong : is_weak_row net row ≡ false = sym (ap (λ o. option_map_or (is_weak_row net) o false) is) ∙ ringed.strong e in
        and_both _ _ hit (ap not strong)

-- a released task has a token at each of its edges
held_use : (net : NetRows) (at : ℕ → Option ℕ) (b : List Entry) (x : Entry) (t : ℕ) → IsRinged net → IsReleased net b t Strong → ((s : ℕ) → uses is_strong s x ≡ eqb t s && true) → ((e : ℕ) → gives_edge e x ≡ false) → Turning net at b
    → (e : ℕ) → e < length net.edges → used (target_of net e) (b ++ x ∷ []) ≤ given net e (b ++ x ∷ [])
held_use net at b x t ringed released use_is no_gift turning e below = by_task (cases_eq t (target_of net e))
  where
    same_given : given net e (b ++ x ∷ []) ≡ given net e b
    same_given = given_push net e b x ∙ ap (λ g. given net e b + cond g 1 0) (no_gift e) ∙ omega arith

    by_task : (t ≡ target_of net e) ⊎ (t ≢ target_of net e) → used (target_of net e) (b ++ x ∷ []) ≤ given net e (b ++ x ∷ [])
    by_task (inl same) =
        let token : used t b + 1 ≤ given net e b = all_any (λ f. used t b + 1 ≤ given net f b) e (strong_in net t) released.1 (subst (λ s. list_any (λ f. f == e) (strong_in net s) ≡ true) (sym same) (among_strong net e ringed below)) in
        let token_here : used (target_of net e) b + 1 ≤ given net e b = subst (λ s. used s b + 1 ≤ given net e b) same token in
        let hit : eqb t (target_of net e) ≡ true = grind (arith, nat_tests) in
        omega (arith, same_given, count_by_push (uses is_strong (target_of net e)) b x ∙ ap (λ u. used (target_of net e) b + cond u 1 0) (use_is (target_of net e) ∙ ap (λ h. h && true) hit))
    by_task (inr other) =
        let miss : eqb t (target_of net e) ≡ false = grind (arith, nat_tests) in
        omega (arith, same_given, turning.held e below, count_by_push_no (uses is_strong (target_of net e)) b x (use_is (target_of net e) ∙ ap (λ h. h && true) miss))

held_still : (net : NetRows) (at : ℕ → Option ℕ) (b : List Entry) (x : Entry) → ((s : ℕ) → uses is_strong s x ≡ false) → Turning net at b → (e : ℕ) → e < length net.edges → used (target_of net e) (b ++ x ∷ []) ≤ given net e (b ++ x ∷ [])
held_still net at b x no_use turning e below = omega (arith, turning.held e below, given_push net e b x, count_by_push_no (uses is_strong (target_of net e)) b x (no_use (target_of net e)))

and_one : (b : Bool) → b && true ≡ b
and_one true = refl
and_one false = refl

-- what each kind of entry changes
start_changes : (net : NetRows) (at : ℕ → Option ℕ) (b : List Entry) (t : ℕ) (ins : List Part) → Changes net at b (Start t Strong ins) (λ e. one_if (eqb t (target_of net e))) (λ e. one_if (eqb t (target_of net e)))
start_changes net at b t ins = record {
  brought = λ e. omega (arith, given_push net e b x, count_by_push (begins (target_of net e)) b x, count_by_push_no (stops_one at (target_of net e)) b x refl);
  taken = λ e. omega (arith, count_by_push (uses is_strong (target_of net e)) b x ∙ ap (λ u. used (target_of net e) b + cond u 1 0) (and_one (eqb t (target_of net e))), count_by_push_no (ends_one at (target_of net e)) b x refl, count_by_push_no (faults_one at (target_of net e)) b x refl);
  balance = λ ring is. omega arith;
}
  where
    x : Entry
    x = Start t Strong ins

drop_changes : (net : NetRows) (at : ℕ → Option ℕ) (b : List Entry) (t : ℕ) (why : DropWhy) → Changes net at b (Drop t Strong why) (λ e. one_if (eqb t (target_of net e))) (λ e. one_if (eqb t (target_of net e)))
drop_changes net at b t why = record {
  brought = λ e. omega (arith, given_push net e b x, count_by_push_no (begins (target_of net e)) b x refl, count_by_push (stops_one at (target_of net e)) b x);
  taken = λ e. omega (arith, count_by_push (uses is_strong (target_of net e)) b x ∙ ap (λ u. used (target_of net e) b + cond u 1 0) (and_one (eqb t (target_of net e))), count_by_push_no (ends_one at (target_of net e)) b x refl, count_by_push_no (faults_one at (target_of net e)) b x refl);
  balance = λ ring is. omega arith;
}
  where
    x : Entry
    x = Drop t Strong why

fault_changes : (net : NetRows) (at : ℕ → Option ℕ) (b : List Entry) (start : ℕ) (why : Why) → Changes net at b (Fault start why) (λ e. one_if (is_task (target_of net e) (at start))) (λ e. one_if (is_task (target_of net e) (at start)))
fault_changes net at b start why = record {
  brought = λ e. omega (arith, given_push net e b x, count_by_push_no (begins (target_of net e)) b x refl, count_by_push (stops_one at (target_of net e)) b x);
  taken = λ e. omega (arith, count_by_push_no (uses is_strong (target_of net e)) b x refl, count_by_push_no (ends_one at (target_of net e)) b x refl, count_by_push (faults_one at (target_of net e)) b x);
  balance = λ ring is. omega arith;
}
  where
    x : Entry
    x = Fault start why

end_changes : (net : NetRows) (limit : ℕ) (at : ℕ → Option ℕ) (b : List Entry) (start : ℕ) (gives : List ℕ) (inner : Bool) → IsRinged net → Told at b → MayFollow net limit b (End start gives inner)
    → Changes net at b (End start gives inner) (λ e. one_if (gives_edge e (End start gives inner))) (λ e. one_if (is_task (target_of net e) (at start)))
end_changes net limit at b start gives inner ringed told may = record {
  brought = λ e. omega (arith, given_push net e b x, count_by_push_no (begins (target_of net e)) b x refl, count_by_push_no (stops_one at (target_of net e)) b x refl);
  taken = λ e. omega (arith, count_by_push_no (uses is_strong (target_of net e)) b x refl, count_by_push (ends_one at (target_of net e)) b x, count_by_push_no (faults_one at (target_of net e)) b x refl);
  balance = λ ring is. omega (arith, sum_below (λ e. one_if (is_task (source_of net e) (at start))) (λ e. one_if (gives_edge e x)) ring (all_of _ leaves ring), through ring is (at start));
}
  where
    x : Entry
    x = End start gives inner

    leaves : (e : ℕ) → one_if (gives_edge e x) ≤ one_if (is_task (source_of net e) (at start))
    leaves e = by_gift (gives_edge e x) refl
      where
        by_gift : (g : Bool) → gives_edge e x ≡ g → one_if g ≤ one_if (is_task (source_of net e) (at start))
        by_gift true gift =
            let its : is_task (source_of net e) (at start) ≡ true = gift_source net at b start gives inner e ringed.strong told may.closing may.choice gift in
            let one : one_if (is_task (source_of net e) (at start)) ≡ 1 = ap one_if its in
            omega arith
        by_gift false none = omega arith

    through : (ring : List ℕ) → IsRing net ring → (o : Option ℕ) → sum_by (λ e. one_if (is_task (source_of net e) o)) ring ≤ sum_by (λ e. one_if (is_task (target_of net e) o)) ring
    through ring is None = omega arith
    through ring is (Some t) = is.balanced t

start_rule : (net : NetRows) (limit : ℕ) (at : ℕ → Option ℕ) (b : List Entry) (x : Entry) → IsRinged net → Told at b → MayFollow net limit b x → Turning net at b → StartRule b x
start_rule net limit at b (Start task cause ins) ringed told may turning =
    let strongly : cause ≡ Strong = released_strongly net b task cause ringed may.in_range.0 may.release in
    let free : Free net at b task = free_when net at b task ringed turning (subst (λ c. IsReleased net b task c) strongly may.release) in
    may_start at task b told turning.placed.behind (rests_when at task b free.all_closed (turning.placed.phases task)) free.none_stopped
start_rule net limit at b (End start gives inner) ringed told may turning = tt
start_rule net limit at b (Fault start why) ringed told may turning = tt
start_rule net limit at b (Drop task cause why) ringed told may turning = tt

turning_step : (net : NetRows) (limit : ℕ) (at : ℕ → Option ℕ) (b : List Entry) (x : Entry) → IsRinged net → Told at (b ++ x ∷ []) → MayFollow net limit b x → Turning net at b → Turning net at (b ++ x ∷ [])
turning_step net limit at b (Start task cause ins) ringed told may turning = by_cause cause (released_strongly net b task cause ringed may.in_range.0 may.release) told may
  where
    by_cause : (c : Cause) → c ≡ Strong → Told at (b ++ Start task c ins ∷ []) → MayFollow net limit b (Start task c ins) → Turning net at (b ++ Start task c ins ∷ [])
    by_cause Source is told_c may_c = absurd (cc)
    by_cause Strong is told_c may_c =
        turn net limit at b (Start task Strong ins) _ _ ringed told_c may_c (start_rule net limit at b (Start task Strong ins) ringed (told_before at b (Start task Strong ins) told_c) may_c turning)
        (start_changes net at b task ins) (held_use net at b (Start task Strong ins) task ringed may_c.release (λ s. refl) (λ e. refl) turning) turning
    by_cause (Weak e) is told_c may_c = absurd (cc)
turning_step net limit at b (Drop task cause why) ringed told may turning = by_cause cause (released_strongly net b task cause ringed may.in_range.0 may.release) told may
  where
    by_cause : (c : Cause) → c ≡ Strong → Told at (b ++ Drop task c why ∷ []) → MayFollow net limit b (Drop task c why) → Turning net at (b ++ Drop task c why ∷ [])
    by_cause Source is told_c may_c = absurd (cc)
    by_cause Strong is told_c may_c =
        turn net limit at b (Drop task Strong why) _ _ ringed told_c may_c tt
        (drop_changes net at b task why) (held_use net at b (Drop task Strong why) task ringed may_c.release (λ s. refl) (λ e. refl) turning) turning
    by_cause (Weak e) is told_c may_c = absurd (cc)
turning_step net limit at b (End start gives inner) ringed told may turning =
    turn net limit at b (End start gives inner) _ _ ringed told may tt
    (end_changes net limit at b start gives inner ringed (told_before at b (End start gives inner) told) may) (held_still net at b (End start gives inner) (λ s. refl) turning) turning
turning_step net limit at b (Fault start why) ringed told may turning =
    turn net limit at b (Fault start why) _ _ ringed told may tt
    (fault_changes net at b start why) (held_still net at b (Fault start why) (λ s. refl) turning) turning

turning_first : (net : NetRows) (at : ℕ → Option ℕ) → IsRinged net → Turning net at []
turning_first net at ringed = record {
  placed = placed_first at;
  held = λ e below. omega arith;
  turns = turns;
  calm = λ e below. (one_first e below, tt);
}
  where
    turns : (ring : List ℕ) → IsRing net ring → sum_by (brings net at []) ring ≤ sum_by (takes net at []) ring + 1
    turns ring is = omega (arith, is.one_token, sum_most (brings net at []) (first_tokens net) (λ e. 0) ring (all_of _ (λ e. omega arith) ring), sum_none ring)
      where
        sum_none : (xs : List ℕ) → sum_by (λ e. 0) xs ≡ 0
        sum_none [] = refl
        sum_none (y ∷ ys) = omega (arith, sum_by-cons (λ (e : ℕ). 0) y ys, sum_none ys)

    one_first : (e : ℕ) → e < length net.edges → given net e [] ≤ used_at net e [] + 1
    one_first e below =
        omega (arith, one_on_ring net at [] ringed (placed_first at) (λ f f_below. omega arith) turns e below)

-- what is kept along the journal
pub turning_along : (net : NetRows) (limit : ℕ) (h : List Entry) → IsRinged net → ShapeLegal net limit h → EachAfterThese (λ b x. Turning net (start_at h) b × (Told (start_at h) (b ++ x ∷ []) × MayFollow net limit b x)) [] h × Turning net (start_at h) h
turning_along net limit h ringed shape =
    along (λ b x. Told (start_at h) (b ++ x ∷ []) × MayFollow net limit b x) (Turning net (start_at h)) (λ b x rule kept. turning_step net limit (start_at h) b x ringed rule.0 rule.1 kept) [] h (turning_first net (start_at h) ringed)
    (both _ _ [] h (each_front (Told (start_at h)) (told_before (start_at h)) [] h (λ n below. refl)) shape)

-- Each shape-legal journal of such a net is steady.
pub steady_rings : (net : NetRows) (limit : ℕ) (h : List Entry) → IsRinged net → ShapeLegal net limit h → Steady net h
steady_rings net limit h ringed shape = record {
  calm = each_below (λ e. IsCalm net e h) (length net.edges) (λ e below. all.1.calm e below);
  single = weaker Rule StartRule (λ b x rule. start_rule net limit at b x ringed (told_before at b x rule.1.0) rule.1.1 rule.0) [] h all.0;
}
  where
    at : ℕ → Option ℕ
    at = start_at h

    Rule : List Entry → Entry → Type 0
    Rule b x = Turning net at b × (Told at (b ++ x ∷ []) × MayFollow net limit b x)

    all : EachAfterThese Rule [] h × Turning net at h
    all = turning_along net limit h ringed shape
