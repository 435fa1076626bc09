-- The account of slots after each kind of step.
use Rattle.std.proofs.Common.{◌≡◌, ◌≢◌, ◌⊎◌, inl, inr, ℕ, zero, suc, ◌+◌, ◌<◌, ◌≤◌, Bool, true, false, ◌&&◌, ◌||◌, cond, eqb, List, [], ◌∷◌, ◌++◌, length, Option, Some, None, sym, refl, ap, ◌∙◌, subst, arith}
use Rattle.std.specs.Prelude.{count_by, slice_get, ◌==◌}
use Rattle.std.specs.Option.{option_map_or}
use Rattle.std.specs.List.{list_any, AllZip, zip}
use Rattle.std.proofs.lemmas.Bool.Decides.{nat_tests}
use Rattle.std.proofs.lemmas.Bool.{cases_eq, cases_lt}
use Rattle.std.proofs.lemmas.Option.{slice_get_past}
use Rattle.task_graph.specs.NetRows.{NetRows}
use Rattle.task_graph.specs.declared.net.EdgeRow.{EdgeRow}
use Rattle.journal_rules.specs.declared.entry.Cause.{Cause}
use Rattle.journal_rules.specs.declared.entry.Entry.{Entry}
use Rattle.journal_rules.specs.declared.entry.Entry.TheVariants.{Start, End}
use Rattle.journal_rules.specs.declared.entry.Part.{Part}
use Rattle.journal_rules.specs.declared.entry.Part.TheVariants.{From, First, Nothing}
use Rattle.journal_rules.specs.Counts.{given, gives_edge, first_tokens}
use Rattle.journal_rules.specs.Calm.{IsCalm, used_at}
use Rattle.journal_rules.specs.DataRule.{DataRule, IsPartAt, MayFind, edges_of, has_part, is_from, is_first, last_part}
use Rattle.journal_rules.proofs.Snoc.{EachAfter-push, count_by_push, last_part_push, slice_get_push_below, slice_get_push_last}
use Rattle.journal_rules.proofs.Tallying.{count_by_push_no, count_once, given_push}
use Rattle.table_steps.proofs.Calming.{calm_before, calm_now}
use Rattle.table_steps.specs.Giving.{one_if, times}
use Rattle.table_steps.specs.inside.Parcels.{same_part, parts_count, DataPart, Owned}
use Rattle.table_steps.proofs.Counting.{times_count, used_at_end, is_one}

-- two parts are one or not
abbrev tag : Part → ℕ
tag (From n) = 0
tag First = 1
tag Nothing = 2

abbrev number : Part → ℕ
number (From n) = n
number First = 0
number Nothing = 0

apart_tags : (p q : Part) → tag p ≢ tag q → p ≢ q
apart_tags p q differ same = differ (ap tag same)

pub cases_part : (p q : Part) → (p ≡ q) ⊎ (p ≢ q)
cases_part (From a) (From b) = by_eq (cases_eq a b)
  where
    by_eq : (a ≡ b) ⊎ (a ≢ b) → (From a ≡ From b) ⊎ (From a ≢ From b)
    by_eq (inl same) = inl (ap (λ n. From n) same)
    by_eq (inr other) = inr (λ e. other (ap number e))
cases_part (From a) First = inr (apart_tags (From a) First (λ e. omega (arith, e)))
cases_part (From a) Nothing = inr (apart_tags (From a) Nothing (λ e. omega (arith, e)))
cases_part First (From b) = inr (apart_tags First (From b) (λ e. omega (arith, e)))
cases_part First First = inl refl
cases_part First Nothing = inr (apart_tags First Nothing (λ e. omega (arith, e)))
cases_part Nothing (From b) = inr (apart_tags Nothing (From b) (λ e. omega (arith, e)))
cases_part Nothing First = inr (apart_tags Nothing First (λ e. omega (arith, e)))
cases_part Nothing Nothing = inl refl

pub part_self : (p : Part) → same_part p p ≡ true
part_self (From n) = let hit : eqb n n ≡ true = grind (arith, nat_tests) in hit
part_self First = refl
part_self Nothing = refl

pub part_apart : (p q : Part) → p ≢ q → same_part p q ≡ false
part_apart (From a) (From b) other = let differ : a ≢ b = λ e. other (ap (λ n. From n) e) in let miss : eqb a b ≡ false = grind (arith, nat_tests) in miss
part_apart (From a) First other = refl
part_apart (From a) Nothing other = refl
part_apart First (From b) other = refl
part_apart First First other = absurd (other refl)
part_apart First Nothing other = refl
part_apart Nothing (From b) other = refl
part_apart Nothing First other = refl
part_apart Nothing Nothing other = absurd (other refl)

pub first_once : (net : NetRows) (e : ℕ) → first_tokens net e ≤ 1
first_once net e = by_row (slice_get net.edges e)
  where
    at_most : (b : Bool) → one_if b ≤ 1
    at_most true = omega arith
    at_most false = omega arith

    by_row : (row : Option EdgeRow) → option_map_or (λ (r : EdgeRow). one_if r.start) row 0 ≤ 1
    by_row None = omega arith
    by_row (Some row) = at_most row.start

-- A Start.
-- what a seat has of an edge may be found there
may_have : (net : NetRows) (journal : List Entry) (edge : ℕ → ℕ) (P Q : ℕ → Part → ℕ) (F R : ℕ → ℕ) (e : ℕ) (p : Part) → DataPart net journal edge P Q F R → 1 ≤ P e p → IsPartAt net journal e p
may_have net journal edge P Q F R e p d some = record {
  found = found_at p some;
  last = λ calm. by_eq (cases_part p (last_part e journal)) calm;
}
  where
    found_at : (q : Part) → 1 ≤ P e q → MayFind net journal e q
    found_at (From n) h =
        let b = option_map_or (gives_edge e) (slice_get journal n) false in
        let is : b ≡ true = is_one b (omega (arith, d.froms e n)) in
        (is, omega (arith, d.froms e n, ap one_if is))
    found_at First h = (omega (arith, d.firsts e, first_once net e), omega (arith, d.firsts e, first_once net e))
    found_at Nothing h = tt

    by_eq : (p ≡ last_part e journal) ⊎ (p ≢ last_part e journal) → IsCalm net e journal → p ≡ last_part e journal
    by_eq (inl same) calm = same
    by_eq (inr other) calm = absurd (omega (arith, d.stale e calm p other))

parts_may : (net : NetRows) (journal : List Entry) (edge : ℕ → ℕ) (P Q : ℕ → Part → ℕ) (F R : ℕ → ℕ) (es : List ℕ) (ps : List Part) → DataPart net journal edge P Q F R → length ps ≡ length es
    → ((e : ℕ) (p : Part) → parts_count e p es ps ≤ P e p) → AllZip (IsPartAt net journal) es ps
parts_may net journal edge P Q F R [] [] d same each = tt
parts_may net journal edge P Q F R [] (p ∷ ps) d same each = absurd (omega arith)
parts_may net journal edge P Q F R (e ∷ es) [] d same each = absurd (omega arith)
parts_may net journal edge P Q F R (e ∷ es) (p ∷ ps) d same each =
    let hit : eqb e e ≡ true = grind (arith, nat_tests) in
    let here : one_if (eqb e e && same_part p p) ≡ 1 = rw (hit, part_self p) refl in
    (may_have net journal edge P Q F R e p d (omega (arith, each e p, here)), parts_may net journal edge P Q F R es ps d (omega arith) (λ g q. omega (arith, each g q)))

-- a part that a Start has is counted among its parts
part_counted : (e : ℕ) (p : Part) (test : Part → Bool) → ((q : Part) → test q ≡ same_part q p) → (es : List ℕ) (ps : List Part) → one_if (list_any (λ x. (x.0 == e) && test x.1) (zip es ps)) ≤ parts_count e p es ps
part_counted e p test is [] ps = omega arith
part_counted e p test is (g ∷ es) [] = omega arith
part_counted e p test is (g ∷ es) (q ∷ ps) = subst (λ b. one_if (((g == e) && b) || list_any (λ x. (x.0 == e) && test x.1) (zip es ps)) ≤ parts_count e p (g ∷ es) (q ∷ ps)) (sym (is q)) (by_head ((g == e) && same_part q p) (list_any (λ x. (x.0 == e) && test x.1) (zip es ps)) (part_counted e p test is es ps))
  where
    by_head : (b c : Bool) → one_if c ≤ parts_count e p es ps → one_if (b || c) ≤ one_if b + parts_count e p es ps
    by_head true c rest = omega arith
    by_head false c rest = omega arith

is_from_same : (n : ℕ) (q : Part) → is_from n q ≡ same_part q (From n)
is_from_same n (From m) = refl
is_from_same n First = refl
is_from_same n Nothing = refl

is_first_same : (q : Part) → is_first q ≡ same_part q First
is_first_same (From m) = refl
is_first_same First = refl
is_first_same Nothing = refl

gives_below : (e n : ℕ) (journal : List Entry) (x : Entry) → gives_edge e x ≡ false → one_if (option_map_or (gives_edge e) (slice_get (journal ++ x ∷ []) n) false) ≡ one_if (option_map_or (gives_edge e) (slice_get journal n) false)
gives_below e n [] x not_given = by_place n
  where
    by_place : (m : ℕ) → one_if (option_map_or (gives_edge e) (slice_get (x ∷ []) m) false) ≡ 0
    by_place zero = ap one_if not_given
    by_place (suc m) = refl
gives_below e zero (y ∷ ys) x not_given = refl
gives_below e (suc n) (y ∷ ys) x not_given = gives_below e n ys x not_given

pub data_start : (net : NetRows) (journal : List Entry) (edge : ℕ → ℕ) (P P' Q : ℕ → Part → ℕ) (F R : ℕ → ℕ) (t : ℕ) (cause : Cause) (ins : List Part) → DataPart net journal edge P Q F R
    → length ins ≡ length (edges_of net t cause) → ((e : ℕ) (p : Part) → P' e p + parts_count e p (edges_of net t cause) ins ≡ P e p) → DataPart net (journal ++ Start t cause ins ∷ []) edge P' Q F R
data_start net journal edge P P' Q F R t cause ins d same less = let x = Start t cause ins in let es = edges_of net t cause in record {
  meets = EachAfter-push (DataRule net) journal x d.meets (parts_may net journal edge P Q F R es ins d same (λ e p. omega (arith, less e p)));
  froms = λ e n. omega (arith, d.froms e n, less e (From n), count_by_push (has_part net e (is_from n)) journal x, part_counted e (From n) (is_from n) (is_from_same n) es ins, gives_below e n journal x refl);
  firsts = λ e. omega (arith, d.firsts e, less e First, count_by_push (has_part net e is_first) journal x, part_counted e First is_first is_first_same es ins);
  stale = λ e calm p other. omega (arith, less e p, d.stale e (calm_before net e journal x calm) p (λ is. other (is ∙ sym (last_part_push e journal x))));
  due = λ e calm. ap (λ p. Q e p + F e) (last_part_push e journal x) ∙ d.due e (calm_before net e journal x calm);
}

-- An End.
pub data_end : (net : NetRows) (journal : List Entry) (edge K : ℕ → ℕ) (P P' Q : ℕ → Part → ℕ) (F R : ℕ → ℕ) (m : ℕ) (gives : List ℕ) (inner : Bool) → DataPart net journal edge P Q F R
    → Owned K edge P F R → ((e : ℕ) → given net e journal ≡ used_at net e journal + edge e + K e) → ((e : ℕ) → times e gives ≤ 1)
    → ((e : ℕ) (p : Part) → P' e p ≡ P e p + cond (same_part (From (length journal)) p) (times e gives) 0) → DataPart net (journal ++ End m gives inner ∷ []) edge P' Q F R
data_end net journal edge K P P' Q F R m gives inner d o tokens once more = let x = End m gives inner in record {
  meets = EachAfter-push (DataRule net) journal x d.meets tt;
  froms = λ e n. froms_at e n (cases_eq (length journal) n);
  firsts = λ e. omega (arith, d.firsts e, more e First, count_by_push_no (has_part net e is_first) journal x refl);
  stale = λ e calm p other. stale_at e calm p other (list_any (λ g. g == e) gives) refl;
  due = λ e calm. due_at e calm (list_any (λ g. g == e) gives) refl;
}
  where
    x : Entry
    x = End m gives inner

    n : ℕ
    n = length journal

    some_is : (e : ℕ) → times e gives ≡ one_if (list_any (λ g. g == e) gives)
    some_is e = times_count e gives ∙ count_once (λ g. g == e) gives (omega (arith, once e, times_count e gives))

    froms_at : (e k : ℕ) → (length journal ≡ k) ⊎ (length journal ≢ k) → P' e (From k) + Q e (From k) + count_by (has_part net e (is_from k)) (journal ++ x ∷ []) ≤ one_if (option_map_or (gives_edge e) (slice_get (journal ++ x ∷ []) k) false)
    froms_at e k (inl same) =
        let hit : eqb (length journal) k ≡ true = grind (arith, nat_tests) in
        let gone : one_if (option_map_or (gives_edge e) (slice_get journal k) false) ≡ 0 = ap (λ o. one_if (option_map_or (gives_edge e) o false)) (slice_get_past journal k (omega arith)) in
        let now : one_if (option_map_or (gives_edge e) (slice_get (journal ++ x ∷ []) k) false) ≡ one_if (list_any (λ g. g == e) gives) = ap (λ o. one_if (option_map_or (gives_edge e) o false)) (ap (slice_get (journal ++ x ∷ [])) (sym same) ∙ slice_get_push_last journal x) in
        omega (arith, d.froms e k, more e (From k), ap (λ b. cond b (times e gives) 0) hit, gone, now, some_is e, count_by_push_no (has_part net e (is_from k)) journal x refl)
    froms_at e k (inr other) =
        let miss : eqb (length journal) k ≡ false = grind (arith, nat_tests) in
        let still : one_if (option_map_or (gives_edge e) (slice_get journal k) false) ≤ one_if (option_map_or (gives_edge e) (slice_get (journal ++ x ∷ []) k) false) = by_place (cases_lt k (length journal)) in
        omega (arith, d.froms e k, more e (From k), ap (λ b. cond b (times e gives) 0) miss, still, count_by_push_no (has_part net e (is_from k)) journal x refl)
      where
        by_place : (k < length journal) ⊎ (length journal ≤ k) → one_if (option_map_or (gives_edge e) (slice_get journal k) false) ≤ one_if (option_map_or (gives_edge e) (slice_get (journal ++ x ∷ []) k) false)
        by_place (inl before) = omega (arith, ap (λ o. one_if (option_map_or (gives_edge e) o false)) (slice_get_push_below journal x k before))
        by_place (inr after) = omega (arith, ap (λ o. one_if (option_map_or (gives_edge e) o false)) (slice_get_past journal k after))

    -- an edge that the End gives, and that is calm after it, had no token and no parcel
    none_held : (e : ℕ) → IsCalm net e (journal ++ x ∷ []) → list_any (λ g. g == e) gives ≡ true → (edge e ≡ 0) × (K e ≡ 0) × (F e ≡ 0) × (R e ≡ 0)
    none_held e calm given_is =
        let now = calm_now net e (journal ++ x ∷ []) calm in
        let one : given net e (journal ++ x ∷ []) ≡ given net e journal + 1 = given_push net e journal x ∙ rw given_is refl in
        let same = used_at_end net e m gives inner journal in
        (omega (arith, now, one, same, tokens e), omega (arith, now, one, same, tokens e), omega (arith, now, one, same, tokens e, o.fetched e), omega (arith, now, one, same, tokens e, o.owing e))

    -- nor lay one there
    none_lay : (e : ℕ) (p : Part) → IsCalm net e journal → (edge e ≡ 0) × (K e ≡ 0) × (F e ≡ 0) × (R e ≡ 0) → Q e p ≡ 0
    none_lay e p calm none = by_part (cases_part p (last_part e journal))
      where
        by_part : (p ≡ last_part e journal) ⊎ (p ≢ last_part e journal) → Q e p ≡ 0
        by_part (inl is) = ap (Q e) is ∙ omega (arith, d.due e calm, none.0, none.3)
        by_part (inr other) = omega (arith, d.stale e calm p other)

    stale_at : (e : ℕ) → IsCalm net e (journal ++ x ∷ []) → (p : Part) → p ≢ last_part e (journal ++ x ∷ []) → (b : Bool) → list_any (λ g. g == e) gives ≡ b → P' e p + Q e p ≡ 0
    stale_at e calm p other true is =
        let last_is : last_part e (journal ++ x ∷ []) ≡ From (length journal) = last_part_push e journal x ∙ rw is refl in
        let none = none_held e calm is in
        let miss : same_part (From (length journal)) p ≡ false = part_apart (From (length journal)) p (λ s. other (sym s ∙ sym last_is)) in
        omega (arith, more e p, ap (λ b. cond b (times e gives) 0) miss, o.owned e p, none.1, none.2, none_lay e p (calm_before net e journal x calm) none)
    stale_at e calm p other false is =
        let last_is : last_part e (journal ++ x ∷ []) ≡ last_part e journal = last_part_push e journal x ∙ rw is refl in
        let zero_times : times e gives ≡ 0 = some_is e ∙ ap one_if is in
        omega (arith, more e p, ap (λ k. cond (same_part (From (length journal)) p) k 0) zero_times, at_none (same_part (From (length journal)) p), d.stale e (calm_before net e journal x calm) p (λ s. other (s ∙ sym last_is)))
      where
        at_none : (b : Bool) → ◌≡◌ {A = ℕ} (cond b 0 0) 0
        at_none true = refl
        at_none false = refl

    due_at : (e : ℕ) → IsCalm net e (journal ++ x ∷ []) → (b : Bool) → list_any (λ g. g == e) gives ≡ b → Q e (last_part e (journal ++ x ∷ [])) + F e ≡ edge e + R e
    due_at e calm true is =
        let last_is : last_part e (journal ++ x ∷ []) ≡ From (length journal) = last_part_push e journal x ∙ rw is refl in
        let none = none_held e calm is in
        let gone : one_if (option_map_or (gives_edge e) (slice_get journal (length journal)) false) ≡ 0 = ap (λ o. one_if (option_map_or (gives_edge e) o false)) (slice_get_past journal (length journal) (omega arith)) in
        let no_label : Q e (From (length journal)) ≡ 0 = omega (arith, d.froms e (length journal), gone) in
        ap (λ p. Q e p + F e) last_is ∙ omega (arith, no_label, none.0, none.2, none.3)
    due_at e calm false is = ap (λ p. Q e p + F e) (last_part_push e journal x ∙ rw is refl) ∙ d.due e (calm_before net e journal x calm)

-- An entry that gives no edge and finds no part.
pub data_quiet : (net : NetRows) (journal : List Entry) (edge : ℕ → ℕ) (P P' Q : ℕ → Part → ℕ) (F F' R R' : ℕ → ℕ) (x : Entry) → DataPart net journal edge P Q F R
    → DataRule net journal x → ((e : ℕ) → gives_edge e x ≡ false) → ((e : ℕ) (test : Part → Bool) → has_part net e test x ≡ false)
    → ((e : ℕ) (p : Part) → P' e p ≤ P e p) → ((e : ℕ) → F' e ≡ F e) → ((e : ℕ) → R' e ≡ R e) → DataPart net (journal ++ x ∷ []) edge P' Q F' R'
data_quiet net journal edge P P' Q F F' R R' x d rule gives_none finds_none fewer fs rs = record {
  meets = EachAfter-push (DataRule net) journal x d.meets rule;
  froms = λ e n. omega (arith, d.froms e n, fewer e (From n), count_by_push_no (has_part net e (is_from n)) journal x (finds_none e (is_from n)), gives_below e n journal x (gives_none e));
  firsts = λ e. omega (arith, d.firsts e, fewer e First, count_by_push_no (has_part net e is_first) journal x (finds_none e is_first));
  stale = λ e calm p other. omega (arith, fewer e p, d.stale e (calm_before net e journal x calm) p (λ is. other (is ∙ sym (last_same e))));
  due = λ e calm. ap (λ p. Q e p + F' e) (last_same e) ∙ omega (arith, d.due e (calm_before net e journal x calm), fs e, rs e);
}
  where
    last_same : (e : ℕ) → last_part e (journal ++ x ∷ []) ≡ last_part e journal
    last_same e = last_part_push e journal x ∙ rw (gives_none e) refl
