-- What waits at the edges is what a start may find there.
use Rattle.std.proofs.Common.{◌≡◌, ◌≢◌, ◌⊎◌, inl, inr, ℕ, ◌+◌, ◌<◌, ◌≤◌, Bool, true, false, ◌&&◌, ◌||◌, cond, eqb, List, [], ◌∷◌, ◌++◌, length, Option, Some, None, sym, refl, ap, ◌∙◌, subst, arith, map, get_or, IsTrue, Result, Ok, Err, IfOk}
use Rattle.std.specs.Prelude.{slice_get, ◌==◌, All}
use Rattle.std.proofs.lemmas.List.Elements.{recursion_from_All}
use Rattle.journal_rules.proofs.NetLemmas.{map_agree}
use Rattle.std.specs.Option.{option_map_or}
use Rattle.std.specs.List.{list_any, AllByRecursion, AllZip, zip}
use Rattle.std.proofs.lemmas.Bool.Decides.{nat_tests}
use Rattle.std.proofs.lemmas.Bool.{cases_eq, false≢true}
use Rattle.std.proofs.lemmas.List.{length_push}
use Rattle.std.proofs.lemmas.Option.{slice_get_past}
use Rattle.outside_io.specs.declared.list.NoMemory.{NoMemory}
use Rattle.task_graph.specs.NetRows.{NetRows}
use Rattle.task_graph.specs.declared.net.EdgeRow.{EdgeRow}
use Rattle.journal_rules.specs.declared.entry.Cause.{Cause}
use Rattle.journal_rules.specs.declared.entry.Part.{Part}
use Rattle.journal_rules.specs.declared.entry.Part.TheVariants.{From, First, Nothing}
use Rattle.journal_rules.specs.declared.entry.Why.{Why}
use Rattle.journal_rules.specs.declared.entry.DropWhy.{DropWhy}
use Rattle.journal_rules.specs.declared.entry.Entry.{Entry}
use Rattle.journal_rules.specs.declared.entry.Entry.TheVariants.{Start, End, Fault, Drop}
use Rattle.journal_rules.specs.Counts.{given, first_tokens, gives_edge}
use Rattle.journal_rules.specs.ReleaseRule.{IsReleased}
use Rattle.journal_rules.specs.Calm.{used_at}
use Rattle.journal_rules.specs.DataRule.{edges_of, MayFind, IsPartAt, has_part, is_from, is_first}
use Rattle.journal_rules.specs.Waiting.{waiting, uses_edge, waiting_parts}
use Rattle.net_machine.specs.inside.Waits.{Waits, TellsWaiting}
use Rattle.journal_rules.specs.inside.Releases.{IsUseOf}
use Rattle.journal_rules.proofs.Snoc.{waiting_push, last_part_push, slice_get_push, slice_get_push_last}
use Rattle.journal_rules.proofs.Tallying.{given_push, count_by_push_no, and_false, tells_same}
use Rattle.journal_rules.proofs.ReleaseLaws.{start_use, drop_use, end_no_use, fault_no_use}
use Rattle.journal_rules.proofs.Reaching.{used_at_use, used_at_none}
use Rattle.legal_run.proofs.CalmEdges.{calm_before, calm_now}

-- where no number of a list is e, no pair that begins with e is among its pairs
zip_first_none : (e : ℕ) (test : Part → Bool) (es : List ℕ) (ps : List Part) → list_any (λ f. f == e) es ≡ false → list_any (λ p. (p.0 == e) && test p.1) (zip es ps) ≡ false
zip_first_none e test [] ps none = refl
zip_first_none e test (f ∷ es) [] none = refl
zip_first_none e test (f ∷ es) (p ∷ ps) none = by_test (eqb f e) refl none (λ h. zip_first_none e test es ps h)
  where
    by_test : (b : Bool) → eqb f e ≡ b → b || list_any (λ g. g == e) es ≡ false → (list_any (λ g. g == e) es ≡ false → list_any (λ q. (q.0 == e) && test q.1) (zip es ps) ≡ false)
        → (b && test p) || list_any (λ q. (q.0 == e) && test q.1) (zip es ps) ≡ false
    by_test true is h rest = absurd (false≢true (sym h))
    by_test false is h rest = rest h

-- where no part of a list passes, none of its pairs does
zip_second_none : (e : ℕ) (test : Part → Bool) (w : ℕ → Part) → ((f : ℕ) → test (w f) ≡ false) → (es : List ℕ) → list_any (λ p. (p.0 == e) && test p.1) (zip es (map w es)) ≡ false
zip_second_none e test w none [] = refl
zip_second_none e test w none (f ∷ es) = rw (none f, and_false (eqb f e), zip_second_none e test w none es) refl

-- what may be found is an End that stands
found_stands : (net : NetRows) (h : List Entry) (f : ℕ) (part : Part) (n : ℕ) → MayFind net h f part → length h ≤ n → is_from n part ≡ false
found_stands net h f (From m) n may past = by_cases (cases_eq m n)
  where
    by_cases : (m ≡ n) ⊎ (m ≢ n) → eqb m n ≡ false
    by_cases (inl same) =
        let none : slice_get h m ≡ None = slice_get_past h m (omega arith) in
        let no_gift : option_map_or (gives_edge f) (slice_get h m) false ≡ false = ap (λ o. option_map_or (gives_edge f) o false) none in
        absurd (false≢true (sym no_gift ∙ may.0))
    by_cases (inr other) = grind (arith, nat_tests)
found_stands net h f First n may past = refl
found_stands net h f Nothing n may past = refl

-- what was found before may be found after an entry that finds nothing at the edge
found_still : (net : NetRows) (h : List Entry) (x : Entry) (e : ℕ) (part : Part) → ((test : Part → Bool) → has_part net e test x ≡ false) → MayFind net h e part → MayFind net (h ++ x ∷ []) e part
found_still net h x e (From n) none may = (gave (slice_get h n) refl, count_by_push_no (has_part net e (is_from n)) h x (none (is_from n)) ∙ may.1)
  where
    gave : (entry : Option Entry) → slice_get h n ≡ entry → IsTrue (option_map_or (gives_edge e) (slice_get (h ++ x ∷ []) n) false)
    gave None is = absurd (false≢true (subst (λ o. option_map_or (gives_edge e) o false ≡ true) is may.0))
    gave (Some entry) is = ap (λ o. option_map_or (gives_edge e) o false) (slice_get_push h x entry n is ∙ sym is) ∙ may.0
found_still net h x e First none may = (may.0, count_by_push_no (has_part net e is_first) h x (none is_first) ∙ may.1)
found_still net h x e Nothing none may = tt

-- an entry that neither gives nor uses the edge changes nothing
pub waits_still : (net : NetRows) (h : List Entry) (x : Entry) (e : ℕ) → gives_edge e x ≡ false → uses_edge net e x ≡ false → ((test : Part → Bool) → has_part net e test x ≡ false)
    → used_at net e (h ++ x ∷ []) ≡ used_at net e h → Waits net h e → Waits net (h ++ x ∷ []) e
waits_still net h x e no_gift no_use none same waits =
    let stays : waiting net e (h ++ x ∷ []) ≡ waiting net e h = waiting_push net e h x ∙ rw (no_gift, no_use) refl in
    let given_is : given net e (h ++ x ∷ []) ≡ given net e h + 0 = given_push net e h x ∙ ap (λ b. given net e h + cond b 1 0) no_gift in
    record {
      found = subst (λ p. MayFind net (h ++ x ∷ []) e p) (sym stays) (found_still net h x e (waiting net e h) none waits.found);
      last = λ calm more. stays ∙ waits.last (calm_before net e h x calm) (omega arith) ∙ sym (last_part_push e h x ∙ rw no_gift refl);
      to_come = λ n past. count_by_push_no (has_part net e (is_from n)) h x (none (is_from n)) ∙ waits.to_come n (omega (arith, length_push h x));
    }

-- an End that gives the edge waits there
pub waits_given : (net : NetRows) (h : List Entry) (x : Entry) (e : ℕ) → gives_edge e x ≡ true → ((test : Part → Bool) → has_part net e test x ≡ false) → Waits net h e → Waits net (h ++ x ∷ []) e
waits_given net h x e gift none waits =
    let now : waiting net e (h ++ x ∷ []) ≡ From (length h) = waiting_push net e h x ∙ rw gift refl in
    let here : option_map_or (gives_edge e) (slice_get (h ++ x ∷ []) (length h)) false ≡ true = ap (λ o. option_map_or (gives_edge e) o false) (slice_get_push_last h x) ∙ gift in
    record {
      found = subst (λ p. MayFind net (h ++ x ∷ []) e p) (sym now) (here, count_by_push_no (has_part net e (is_from (length h))) h x (none (is_from (length h))) ∙ waits.to_come (length h) (omega arith));
      last = λ calm more. now ∙ sym (last_part_push e h x ∙ rw gift refl);
      to_come = λ n past. count_by_push_no (has_part net e (is_from n)) h x (none (is_from n)) ∙ waits.to_come n (omega (arith, length_push h x));
    }

-- after a use nothing waits
pub waits_used : (net : NetRows) (h : List Entry) (x : Entry) (e : ℕ) → gives_edge e x ≡ false → uses_edge net e x ≡ true → ((n : ℕ) → length h ≤ n → has_part net e (is_from n) x ≡ false)
    → used_at net e (h ++ x ∷ []) ≡ used_at net e h + 1 → Waits net h e → Waits net (h ++ x ∷ []) e
waits_used net h x e no_gift takes none one_more waits =
    let now : waiting net e (h ++ x ∷ []) ≡ Nothing = waiting_push net e h x ∙ rw (no_gift, takes) refl in
    let given_is : given net e (h ++ x ∷ []) ≡ given net e h + 0 = given_push net e h x ∙ ap (λ b. given net e h + cond b 1 0) no_gift in
    record {
      found = subst (λ p. MayFind net (h ++ x ∷ []) e p) (sym now) tt;
      last = λ calm more. absurd (let before = calm_now net e h (calm_before net e h x calm) in omega arith);
      to_come = λ n past. count_by_push_no (has_part net e (is_from n)) h x (none n (omega (arith, length_push h x))) ∙ waits.to_come n (omega (arith, length_push h x));
    }

-- a use of a release leaves each edge so, if the Start finds what waits
waits_use : (net : NetRows) (h : List Entry) (x : Entry) (t : ℕ) (cause : Cause) → IsUseOf t cause x → IsReleased net h t cause
    → ((e n : ℕ) → length h ≤ n → has_part net e (is_from n) x ≡ false) → ((e : ℕ) (test : Part → Bool) → uses_edge net e x ≡ false → has_part net e test x ≡ false)
    → ((e : ℕ) → Waits net h e) → (e : ℕ) → Waits net (h ++ x ∷ []) e
waits_use net h x t cause using rule later elsewhere waits e = by_use (uses_edge net e x) refl
  where
    used_is : (b : Bool) → uses_edge net e x ≡ b → used_at net e (h ++ x ∷ []) ≡ used_at net e h + cond b 1 0
    used_is b takes = used_at_use net e h x t cause using rule ∙ ap (λ c. used_at net e h + cond c 1 0) (sym (using.edges net e) ∙ takes)

    by_use : (b : Bool) → uses_edge net e x ≡ b → Waits net (h ++ x ∷ []) e
    by_use true takes = waits_used net h x e (using.no_gift e) takes (later e) (used_is true takes) (waits e)
    by_use false takes = waits_still net h x e (using.no_gift e) takes (λ test. elsewhere e test takes) (used_is false takes ∙ omega arith) (waits e)

pub waits_start : (net : NetRows) (h : List Entry) (t : ℕ) (cause : Cause) → IsReleased net h t cause → ((e : ℕ) → Waits net h e) → (e : ℕ) → Waits net (h ++ Start t cause (waiting_parts net t cause h) ∷ []) e
waits_start net h t cause rule waits =
    waits_use net h (Start t cause (waiting_parts net t cause h)) t cause (start_use t cause (waiting_parts net t cause h)) rule
    (λ e n past. zip_second_none e (is_from n) (λ f. waiting net f h) (λ f. found_stands net h f (waiting net f h) n (waits f).found past) (edges_of net t cause))
    (λ e test takes. zip_first_none e test (edges_of net t cause) (waiting_parts net t cause h) takes) waits

pub waits_drop : (net : NetRows) (h : List Entry) (t : ℕ) (cause : Cause) (why : DropWhy) → IsReleased net h t cause → ((e : ℕ) → Waits net h e) → (e : ℕ) → Waits net (h ++ Drop t cause why ∷ []) e
waits_drop net h t cause why rule waits = waits_use net h (Drop t cause why) t cause (drop_use t cause why) rule (λ e n past. refl) (λ e test takes. refl) waits

-- so does an End
pub waits_end : (net : NetRows) (h : List Entry) (start : ℕ) (gives : List ℕ) (inner : Bool) → ((e : ℕ) → Waits net h e) → (e : ℕ) → Waits net (h ++ End start gives inner ∷ []) e
waits_end net h start gives inner waits e = by_gift (list_any (λ g. g == e) gives) refl
  where
    x : Entry
    x = End start gives inner

    by_gift : (b : Bool) → list_any (λ g. g == e) gives ≡ b → Waits net (h ++ x ∷ []) e
    by_gift true gift = waits_given net h x e gift (λ test. refl) (waits e)
    by_gift false gift = waits_still net h x e gift refl (λ test. refl) (used_at_none net e h x (end_no_use start gives inner)) (waits e)

-- and a Fault
pub waits_fault : (net : NetRows) (h : List Entry) (start : ℕ) (why : Why) → ((e : ℕ) → Waits net h e) → (e : ℕ) → Waits net (h ++ Fault start why ∷ []) e
waits_fault net h start why waits e = waits_still net h (Fault start why) e refl refl (λ test. refl) (used_at_none net e h (Fault start why) (fault_no_use start why)) (waits e)

abbrev one_number : Bool → ℕ
one_number b = cond b 1 0

-- at first
pub waits_empty : (net : NetRows) (e : ℕ) → Waits net [] e
waits_empty net e = by_row (slice_get net.edges e) refl
  where
    found : (row : Option EdgeRow) → slice_get net.edges e ≡ row → MayFind net [] e (option_map_or (λ (r : EdgeRow). cond r.start First Nothing) row Nothing)
    found None is = tt
    found (Some row) is = by_start row.start (ap (λ o. option_map_or (λ (r : EdgeRow). cond r.start 1 0) o 0) is)
      where
        by_start : (b : Bool) → first_tokens net e ≡ cond b 1 0 → MayFind net [] e (cond b First Nothing)
        by_start true one = (one, refl)
        by_start false none = tt

    last : (row : Option EdgeRow) → (option_map_or (λ (r : EdgeRow). one_number r.start) row 0 ≡ 0 → ⊥) → option_map_or (λ (r : EdgeRow). cond r.start First Nothing) row Nothing ≡ First
    last None some = absurd (some refl)
    last (Some row) some = by_start row.start some
      where
        by_start : (b : Bool) → (one_number b ≡ 0 → ⊥) → cond b First Nothing ≡ First
        by_start true any = refl
        by_start false any = absurd (any refl)

    by_row : (row : Option EdgeRow) → slice_get net.edges e ≡ row → Waits net [] e
    by_row row is = record {
      found = subst (λ o. MayFind net [] e (option_map_or (λ (r : EdgeRow). cond r.start First Nothing) o Nothing)) (sym is) (found row is);
      last = λ calm more. last (slice_get net.edges e) (λ none. absurd (omega arith));
      to_come = λ n past. refl;
    }

-- the parts that wait are such as the start may have
pub parts_allowed : (net : NetRows) (h : List Entry) (es : List ℕ) → AllByRecursion (λ e. used_at net e h < given net e h) es → ((e : ℕ) → Waits net h e) → AllZip (IsPartAt net h) es (map (λ e. waiting net e h) es)
parts_allowed net h [] held waits = tt
parts_allowed net h (e ∷ es) held waits =
    (record { found = (waits e).found; last = λ calm. (waits e).last calm held.0 }, parts_allowed net h es held.1 waits)

-- what is read of the parts after a use
pub tells_use : (net : NetRows) (h : List Entry) (x : Entry) (t : ℕ) (cause : Cause) (old new : List Part) → IsUseOf t cause x → TellsWaiting net h old → length new ≡ length old
    → ((k : ℕ) (d : Part) → k < length old → get_or new k d ≡ cond (list_any (λ e. e == k) (edges_of net t cause)) Nothing (get_or old k d)) → TellsWaiting net (h ++ x ∷ []) new
tells_use net h x t cause old new using tells len each = record {
  len = len ∙ tells.len;
  each = λ k d below.
      each k d (omega (arith, tells.len)) ∙ ap (λ p. cond (list_any (λ e. e == k) (edges_of net t cause)) Nothing p) (tells.each k d below)
      ∙ sym (waiting_push net k h x ∙ ap (λ b. cond b (From (length h)) (cond (uses_edge net k x) Nothing (waiting net k h))) (using.no_gift k) ∙ ap (λ b. cond b Nothing (waiting net k h)) (using.edges net k));
}

-- after an End
pub tells_end : (net : NetRows) (h : List Entry) (start : ℕ) (gives : List ℕ) (inner : Bool) (place : ℕ) (old new : List Part) → TellsWaiting net h old → place ≡ length h → length new ≡ length old
    → ((k : ℕ) (d : Part) → k < length old → get_or new k d ≡ cond (list_any (λ e. e == k) gives) (From place) (get_or old k d)) → TellsWaiting net (h ++ End start gives inner ∷ []) new
tells_end net h start gives inner place old new tells here len each = record {
  len = len ∙ tells.len;
  each = λ k d below.
      each k d (omega (arith, tells.len)) ∙ ap (λ p. cond (list_any (λ e. e == k) gives) (From place) p) (tells.each k d below) ∙ ap (λ n. cond (list_any (λ e. e == k) gives) (From n) (waiting net k h)) here
      ∙ sym (waiting_push net k h (End start gives inner));
}

-- and after a Fault
pub tells_fault : (net : NetRows) (h : List Entry) (start : ℕ) (why : Why) (parts : List Part) → TellsWaiting net h parts → TellsWaiting net (h ++ Fault start why ∷ []) parts
tells_fault net h start why parts tells = tells_same _ _ _ _ tells (λ e. waiting_push net e h (Fault start why))

-- the parts read at edges are those that wait
pub parts_read : (net : NetRows) (h : List Entry) (parts : List Part) (es : List ℕ) → TellsWaiting net h parts → All (λ e. e < length parts) es → map (λ e. get_or parts e Nothing) es ≡ map (λ e. waiting net e h) es
parts_read net h parts es tells within =
    map_agree (λ e. get_or parts e Nothing) (λ e. waiting net e h) es (recursion_from_All _ es (λ k d below. tells.each (get_or es k d) Nothing (omega (arith, within k d below, tells.len))))

pub parts_answer : (net : NetRows) (h : List Entry) (parts : List Part) (es : List ℕ) (answer : Result (List Part) NoMemory) → TellsWaiting net h parts → All (λ e. e < length parts) es
    → IfOk answer (λ list. list ≡ map (λ e. get_or parts e Nothing) es) → IfOk answer (λ list. list ≡ map (λ e. waiting net e h) es)
parts_answer net h parts es (Err e) tells within read = tt
parts_answer net h parts es (Ok list) tells within read = read ∙ parts_read net h parts es tells within
