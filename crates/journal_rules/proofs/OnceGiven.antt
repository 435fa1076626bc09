-- In a net without weak edges and starting tokens each task uses one release at most, and so each edge is given one
-- token at most.
use Rattle.std.proofs.Common.{◌≡◌, ◌≢◌, ◌⊎◌, inl, inr, ℕ, zero, suc, ◌+◌, ◌<◌, ◌≤◌, Bool, true, false, not, ◌&&◌, cond, eqb, List, [], ◌∷◌, ◌++◌, length, Option, Some, None, sym, refl, ap, ◌∙◌, subst, arith, IsTrue}
use Rattle.std.specs.Prelude.{count_by, slice_get, ◌==◌, IsSomeAnd}
use Rattle.std.specs.Option.{option_map_or}
use Rattle.std.specs.List.{list_any, AllByRecursion}
use Rattle.std.proofs.lemmas.Bool.Decides.{nat_tests}
use Rattle.std.proofs.lemmas.Bool.{cases_eq, cases_lt, false≢true, eqb-true}
use Rattle.std.proofs.lemmas.List.{append-nil, append_assoc}
use Rattle.std.proofs.lemmas.List.Sums.{sum_by-cons}
use Rattle.std.proofs.lemmas.Option.{same_Some}
use Rattle.task_graph.specs.NetRows.{NetRows}
use Rattle.task_graph.specs.Net.{IsSource, out_edges, strong_in}
use Rattle.task_graph.specs.declared.net.Shape.{Shape}
use Rattle.task_graph.specs.declared.net.Shape.TheVariants.{Plain, Choice, Many, Nested}
use Rattle.task_graph.specs.declared.net.TaskRow.{TaskRow}
use Rattle.task_graph.specs.declared.net.EdgeRow.{EdgeRow}
use Rattle.task_graph.proofs.PlaceLemmas.{strong_in-source}
use Rattle.journal_rules.specs.declared.entry.Cause.{Cause}
use Rattle.journal_rules.specs.declared.entry.Cause.TheVariants.{Source, Strong, Weak}
use Rattle.journal_rules.specs.declared.entry.Entry.{Entry}
use Rattle.journal_rules.specs.declared.entry.Entry.TheVariants.{Start, End, Fault, Drop}
use Rattle.journal_rules.specs.Counts.{given, gives_edge, used, used_source, uses, is_strong, is_source, started, start_at, is_open, closes}
use Rattle.journal_rules.specs.ChoiceRule.{ChoiceRule, GivesFit, InnerFits}
use Rattle.journal_rules.specs.Entries.{EachAfterThese}
use Rattle.journal_rules.specs.OnceNets.{IsOnceNet}
use Rattle.journal_rules.specs.ReleaseRule.{IsReleased}
use Rattle.journal_rules.specs.ShapeLegal.{ShapeLegal, MayFollow}
use Rattle.journal_rules.specs.inside.Releases.{IsUseOf}
use Rattle.journal_rules.proofs.Snoc.{count_by_push, start_at_push_below, is_open_push_below}
use Rattle.journal_rules.proofs.Tallying.{count_by_push_no, count_by_push_yes, and_false}
use Rattle.journal_rules.proofs.NetLemmas.{any_place}
use Rattle.journal_rules.proofs.UnitLaws.{start_below}
use Rattle.journal_rules.proofs.ReleaseLaws.{start_use, drop_use}
use Rattle.journal_rules.proofs.Reaching.{any_has, open_stands}

abbrev one_if : Bool → ℕ
one_if b = cond b 1 0

-- whether an entry is a Start or a Drop of the task
abbrev pub uses_one : ℕ → Entry → Bool
uses_one t x = uses (λ cause. true) t x

-- what a task has used: one release at most
record Used (net : NetRows) (t : ℕ) (b : List Entry) : Type 0 where
  few : count_by (uses_one t) b ≤ 1
  parts : count_by (uses_one t) b ≡ used t b + used_source t b
  no_source : strong_in net t ≢ [] → used_source t b ≡ 0
  no_strong : IsSource net t → used t b ≡ 0

-- a Start of the task that is closed
record ClosedStart (b : List Entry) (t : ℕ) : Type 0 where
  place : ℕ
  started : start_at b place ≡ Some t
  closed : is_open b place ≡ false

-- what each entry keeps: an edge that was given leaves a task of which a Start is closed
record OnceSoFar (net : NetRows) (b : List Entry) : Type 0 where
  tasks : (t : ℕ) → Used net t b
  few : (e : ℕ) → count_by (gives_edge e) b ≤ 1
  closed : (e t : ℕ) → IsTrue (list_any (λ g. g == e) (out_edges net t)) → 0 < count_by (gives_edge e) b → ClosedStart b t

-- a Start uses a release of its task
start_uses : (t : ℕ) (x : Entry) → started x ≡ Some t → uses_one t x ≡ true
start_uses t (Start task cause ins) is =
    let same : task ≡ t = same_Some task t is in
    let hit : eqb task t ≡ true = grind (arith, nat_tests) in
    ap (λ s. s && true) hit
start_uses t (End start gives inner) is = absurd (cc)
start_uses t (Fault start why) is = absurd (cc)
start_uses t (Drop task cause why) is = absurd (cc)

uses_cons : (t : ℕ) (x : Entry) (xs : List Entry) → count_by (uses_one t) (x ∷ xs) ≡ one_if (uses_one t x) + count_by (uses_one t) xs
uses_cons t x xs = sum_by-cons (λ y. one_if (uses_one t y)) x xs

uses_at : (t : ℕ) (b : List Entry) (n : ℕ) → start_at b n ≡ Some t → 1 ≤ count_by (uses_one t) b
uses_at t [] n is = absurd (cc)
uses_at t (x ∷ xs) zero is = omega (arith, uses_cons t x xs, ap one_if (start_uses t x is))
uses_at t (x ∷ xs) (suc n) is = omega (arith, uses_cons t x xs, uses_at t xs n is)

-- and two Starts use two
uses_two : (t : ℕ) (b : List Entry) (n m : ℕ) → n ≢ m → start_at b n ≡ Some t → start_at b m ≡ Some t → 2 ≤ count_by (uses_one t) b
uses_two t [] n m other first second = absurd (cc)
uses_two t (x ∷ xs) zero zero other first second = absurd (other refl)
uses_two t (x ∷ xs) zero (suc m) other first second = omega (arith, uses_cons t x xs, ap one_if (start_uses t x first), uses_at t xs m second)
uses_two t (x ∷ xs) (suc n) zero other first second = omega (arith, uses_cons t x xs, ap one_if (start_uses t x second), uses_at t xs n first)
uses_two t (x ∷ xs) (suc n) (suc m) other first second = omega (arith, uses_cons t x xs, uses_two t xs n m (λ same. other (ap (λ k. suc k) same)) first second)

-- an entry that uses no release of the task
used_same : (net : NetRows) (t : ℕ) (b : List Entry) (x : Entry) → ((by : Cause → Bool) → uses by t x ≡ false) → Used net t b → Used net t (b ++ x ∷ [])
used_same net t b x none old = record {
  few = omega (arith, old.few, all);
  parts = omega (arith, old.parts, all, same is_strong, same is_source);
  no_source = λ has. same is_source ∙ old.no_source has;
  no_strong = λ source. same is_strong ∙ old.no_strong source;
}
  where
    same : (by : Cause → Bool) → count_by (uses by t) (b ++ x ∷ []) ≡ count_by (uses by t) b
    same by = count_by_push_no (uses by t) b x (none by)

    all : count_by (uses_one t) (b ++ x ∷ []) ≡ count_by (uses_one t) b
    all = count_by_push_no (uses_one t) b x (none (λ cause. true))

-- an entry that uses a release: its task has used none before
used_more : (net : NetRows) (b : List Entry) (x : Entry) (t : ℕ) (cause : Cause) → IsOnceNet net → IsUseOf t cause x → IsReleased net b t cause → OnceSoFar net b → (r : ℕ) → Used net r (b ++ x ∷ [])
used_more net b x t cause once using released so_far r = by_task (cases_eq t r)
  where
    old : Used net t b
    old = so_far.tasks t

    more : (c : Cause) → IsUseOf t c x → (by : Cause → Bool) → count_by (uses by t) (b ++ x ∷ []) ≡ count_by (uses by t) b + one_if (by c)
    more c u by =
        let hit : eqb t t ≡ true = grind (arith, nat_tests) in
        count_by_push (uses by t) b x ∙ ap (λ s. count_by (uses by t) b + one_if s) (u.by_task by t ∙ ap (λ s. s && by c) hit)

    first_round : (es : List ℕ) → strong_in net t ≡ es → strong_in net t ≢ [] → AllByRecursion (λ e. used t b + 1 ≤ given net e b) es → used t b ≡ 0
    first_round [] is some held = absurd (some is)
    first_round (e ∷ es) is some held = omega (arith, held.0, so_far.few e, once.no_first e)

    by_cause : (c : Cause) → IsUseOf t c x → IsReleased net b t c → Used net t (b ++ x ∷ [])
    by_cause Source u release =
        let all : count_by (uses_one t) (b ++ x ∷ []) ≡ count_by (uses_one t) b + 1 = more Source u (λ c. true) in
        let strong : used t (b ++ x ∷ []) ≡ used t b + 0 = more Source u is_strong in
        let source : used_source t (b ++ x ∷ []) ≡ used_source t b + 1 = more Source u is_source in
        let none : used t b ≡ 0 = old.no_strong release.0 in
        record {
          few = omega (arith, old.parts, release.1, none, all);
          parts = omega (arith, old.parts, all, strong, source);
          no_source = λ has. absurd (has (strong_in-source net t release.0));
          no_strong = λ is. omega (arith, none, strong);
        }
    by_cause Strong u release =
        let all : count_by (uses_one t) (b ++ x ∷ []) ≡ count_by (uses_one t) b + 1 = more Strong u (λ c. true) in
        let strong : used t (b ++ x ∷ []) ≡ used t b + 1 = more Strong u is_strong in
        let source : used_source t (b ++ x ∷ []) ≡ used_source t b + 0 = more Strong u is_source in
        let none : used_source t b ≡ 0 = old.no_source release.0 in
        let first : used t b ≡ 0 = first_round (strong_in net t) refl release.0 release.1 in
        record {
          few = omega (arith, old.parts, none, first, all);
          parts = omega (arith, old.parts, all, strong, source);
          no_source = λ has. omega (arith, none, source);
          no_strong = λ is. absurd (release.0 (strong_in-source net t is));
        }
    by_cause (Weak e) u release = absurd (false≢true (sym (once.strong e) ∙ release.0))

    by_task : (t ≡ r) ⊎ (t ≢ r) → Used net r (b ++ x ∷ [])
    by_task (inl same) = subst (λ s. Used net s (b ++ x ∷ [])) same (by_cause cause using released)
    by_task (inr other) =
        let miss : eqb t r ≡ false = grind (arith, nat_tests) in
        used_same net r b x (λ by. using.by_task by r ∙ ap (λ s. s && by cause) miss) (so_far.tasks r)

-- a closed Start stays closed
still_closed : (b : List Entry) (x : Entry) (t : ℕ) → ClosedStart b t → ClosedStart (b ++ x ∷ []) t
still_closed b x t start =
    let below : start.place < length b = start_below b start.place t start.started in
    record {
      place = start.place;
      started = start_at_push_below b x start.place below ∙ start.started;
      closed = is_open_push_below b x start.place below ∙ ap (λ o. o && not (closes start.place x)) start.closed;
    }

-- an edge leaves one task
one_source : (net : NetRows) (e s t : ℕ) → IsTrue (list_any (λ g. g == e) (out_edges net s)) → IsTrue (list_any (λ g. g == e) (out_edges net t)) → s ≡ t
one_source net e s t from_s from_t =
    by_row (slice_get net.edges e) (sym (any_place (λ (row : EdgeRow). row.from == s) e net.edges) ∙ from_s) (sym (any_place (λ (row : EdgeRow). row.from == t) e net.edges) ∙ from_t)
  where
    by_row : (o : Option EdgeRow) → option_map_or (λ (row : EdgeRow). row.from == s) o false ≡ true → option_map_or (λ (row : EdgeRow). row.from == t) o false ≡ true → s ≡ t
    by_row None is_s is_t = absurd (false≢true is_s)
    by_row (Some row) is_s is_t = sym (eqb-true row.from s is_s) ∙ eqb-true row.from t is_t

-- the edges that an End gives leave the task of its Start
record EndOf (net : NetRows) (b : List Entry) (start : ℕ) (gives : List ℕ) : Type 0 where
  task : ℕ
  started : start_at b start ≡ Some task
  leave : (e : ℕ) → IsTrue (list_any (λ g. g == e) gives) → IsTrue (list_any (λ g. g == e) (out_edges net task))

fit_leave : (shape : Shape) (out gives : List ℕ) (e : ℕ) → GivesFit shape out gives → IsTrue (list_any (λ g. g == e) gives) → IsTrue (list_any (λ g. g == e) out)
fit_leave Plain out gives e (inl all) gift = subst (λ es. IsTrue (list_any (λ g. g == e) es)) all gift
fit_leave Plain out gives e (inr none) gift = absurd (false≢true (subst (λ es. IsTrue (list_any (λ g. g == e) es)) none gift))
fit_leave Choice out gives e fit gift = any_has (λ g. IsTrue (list_any (λ f. f == g) out)) e gives fit.1 gift
fit_leave Many out gives e fit gift = any_has (λ g. IsTrue (list_any (λ f. f == g) out)) e gives fit.1 gift
fit_leave Nested out gives e (inl all) gift = subst (λ es. IsTrue (list_any (λ g. g == e) es)) all gift
fit_leave Nested out gives e (inr none) gift = absurd (false≢true (subst (λ es. IsTrue (list_any (λ g. g == e) es)) none gift))

end_of : (net : NetRows) (b : List Entry) (start : ℕ) (gives : List ℕ) (inner : Bool) → ChoiceRule net b (End start gives inner) → EndOf net b start gives
end_of net b start gives inner choice = by_task (start_at b start) refl choice
  where
    by_row : (t : ℕ) → start_at b start ≡ Some t → (o : Option TaskRow) → IsSomeAnd o (λ (row : TaskRow). GivesFit row.shape (out_edges net t) gives × InnerFits row.shape inner) → EndOf net b start gives
    by_row t is None fits = absurd fits
    by_row t is (Some row) fits = record { task = t; started = is; leave = λ e gift. fit_leave row.shape (out_edges net t) gives e fits.0 gift }

    by_task : (o : Option ℕ) → start_at b start ≡ o → IsSomeAnd o (λ t. IsSomeAnd (slice_get net.tasks t) (λ (row : TaskRow). GivesFit row.shape (out_edges net t) gives × InnerFits row.shape inner)) → EndOf net b start gives
    by_task None is fits = absurd fits
    by_task (Some t) is fits = by_row t is (slice_get net.tasks t) fits

-- an End: no Start of its task is closed yet
once_end : (net : NetRows) (b : List Entry) (start : ℕ) (gives : List ℕ) (inner : Bool) → is_open b start ≡ true → ChoiceRule net b (End start gives inner) → OnceSoFar net b → OnceSoFar net (b ++ End start gives inner ∷ [])
once_end net b start gives inner opened choice so_far = record {
  tasks = λ t. used_same net t b x (λ by. refl) (so_far.tasks t);
  few = λ e. few_at e (gives_edge e x) refl;
  closed = λ e t leaves some. closed_at e t leaves some (gives_edge e x) refl;
}
  where
    x : Entry
    x = End start gives inner

    ends : EndOf net b start gives
    ends = end_of net b start gives inner choice

    none_closed : ClosedStart b ends.task → ⊥
    none_closed old =
        let two : 2 ≤ count_by (uses_one ends.task) b = uses_two ends.task b old.place start (λ same. false≢true (sym old.closed ∙ ap (is_open b) same ∙ opened)) old.started ends.started in
        omega (arith, (so_far.tasks ends.task).few)

    now_closed : ClosedStart (b ++ x ∷ []) ends.task
    now_closed =
        let below : start < length b = open_stands b start opened in
        let hit : eqb start start ≡ true = grind (arith, nat_tests) in
        record {
          place = start;
          started = start_at_push_below b x start below ∙ ends.started;
          closed = is_open_push_below b x start below ∙ ap (λ c. is_open b start && not c) hit ∙ and_false (is_open b start);
        }

    few_at : (e : ℕ) (gift : Bool) → gives_edge e x ≡ gift → count_by (gives_edge e) (b ++ x ∷ []) ≤ 1
    few_at e false is = omega (arith, so_far.few e, count_by_push_no (gives_edge e) b x is)
    few_at e true is = by_count (cases_lt 0 (count_by (gives_edge e) b))
      where
        by_count : (0 < count_by (gives_edge e) b) ⊎ (count_by (gives_edge e) b ≤ 0) → count_by (gives_edge e) (b ++ x ∷ []) ≤ 1
        by_count (inl some) = absurd (none_closed (so_far.closed e ends.task (ends.leave e is) some))
        by_count (inr none) = omega (arith, none, count_by_push_yes (gives_edge e) b x is)

    closed_at : (e t : ℕ) → IsTrue (list_any (λ g. g == e) (out_edges net t)) → 0 < count_by (gives_edge e) (b ++ x ∷ []) → (gift : Bool) → gives_edge e x ≡ gift → ClosedStart (b ++ x ∷ []) t
    closed_at e t leaves some false is = still_closed b x t (so_far.closed e t leaves (omega (arith, some, count_by_push_no (gives_edge e) b x is)))
    closed_at e t leaves some true is = subst (λ s. ClosedStart (b ++ x ∷ []) s) (one_source net e ends.task t (ends.leave e is) leaves) now_closed

-- an entry that gives no edge
once_no_gift : (net : NetRows) (b : List Entry) (x : Entry) → ((t : ℕ) → Used net t (b ++ x ∷ [])) → ((e : ℕ) → gives_edge e x ≡ false) → OnceSoFar net b → OnceSoFar net (b ++ x ∷ [])
once_no_gift net b x tasks none so_far = record {
  tasks = tasks;
  few = λ e. omega (arith, so_far.few e, count_by_push_no (gives_edge e) b x (none e));
  closed = λ e t leaves some. still_closed b x t (so_far.closed e t leaves (omega (arith, some, count_by_push_no (gives_edge e) b x (none e))));
}

once_push : (net : NetRows) (limit : ℕ) (b : List Entry) (x : Entry) → IsOnceNet net → MayFollow net limit b x → OnceSoFar net b → OnceSoFar net (b ++ x ∷ [])
once_push net limit b (Start t cause ins) once may so_far = once_no_gift net b (Start t cause ins) (used_more net b (Start t cause ins) t cause once (start_use t cause ins) may.release so_far) (λ e. refl) so_far
once_push net limit b (End start gives inner) once may so_far = once_end net b start gives inner may.closing may.choice so_far
once_push net limit b (Fault start why) once may so_far = once_no_gift net b (Fault start why) (λ t. used_same net t b (Fault start why) (λ by. refl) (so_far.tasks t)) (λ e. refl) so_far
once_push net limit b (Drop t cause why) once may so_far = once_no_gift net b (Drop t cause why) (used_more net b (Drop t cause why) t cause once (drop_use t cause why) may.release so_far) (λ e. refl) so_far

once_from : (net : NetRows) (limit : ℕ) (before xs : List Entry) → IsOnceNet net → EachAfterThese (MayFollow net limit) before xs → OnceSoFar net before → OnceSoFar net (before ++ xs)
once_from net limit before [] once each so_far = subst (OnceSoFar net) (sym (append-nil before)) so_far
once_from net limit before (x ∷ xs) once each so_far =
    subst (OnceSoFar net) (append_assoc before (x ∷ []) xs) (once_from net limit (before ++ x ∷ []) xs once each.1 (once_push net limit before x once each.0 so_far))

once_legal : (net : NetRows) (limit : ℕ) (journal : List Entry) → IsOnceNet net → ShapeLegal net limit journal → OnceSoFar net journal
once_legal net limit journal once legal =
    once_from net limit [] journal once legal (record {
      tasks = λ t. record { few = omega arith; parts = refl; no_source = λ has. refl; no_strong = λ source. refl };
      few = λ e. omega arith;
      closed = λ e t leaves some. absurd (omega (arith, some));
    })

-- each edge is given one token at most
pub given_once : (net : NetRows) (limit : ℕ) (journal : List Entry) → IsOnceNet net → ShapeLegal net limit journal → (e : ℕ) → given net e journal ≤ 1
given_once net limit journal once legal e = omega (arith, (once_legal net limit journal once legal).few e, once.no_first e)

-- and each task has one Start or Drop at most
pub used_once : (net : NetRows) (limit : ℕ) (journal : List Entry) → IsOnceNet net → ShapeLegal net limit journal → (t : ℕ) → count_by (uses_one t) journal ≤ 1
used_once net limit journal once legal t = ((once_legal net limit journal once legal).tasks t).few
