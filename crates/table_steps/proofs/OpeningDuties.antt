-- The accounts hold when a table begins.
use Rattle.std.proofs.Common.{◌≡◌, ◌≢◌, ◌⊎◌, inl, inr, ℕ, zero, suc, ◌+◌, ◌<◌, ◌≤◌, Bool, true, false, not, ◌&&◌, cond, eqb, List, [], ◌∷◌, ◌++◌, length, Option, Some, None, sym, refl, ap, ◌∙◌, subst, arith}
use Rattle.std.specs.Prelude.{slice_get, ◌==◌, IsTrue}
use Rattle.std.specs.Option.{option_map_or}
use Rattle.std.proofs.lemmas.Bool.Decides.{nat_tests}
use Rattle.std.proofs.lemmas.Bool.{cases_eq, false≢true}
use Rattle.task_graph.specs.NetRows.{NetRows}
use Rattle.task_graph.specs.Net.{IsSource, IsNet, in_edges, strong_in, is_weak, is_weak_row, IsEdgeOf}
use Rattle.task_graph.specs.declared.net.EdgeRow.{EdgeRow}
use Rattle.journal_rules.specs.declared.entry.Cause.TheVariants.{Source, Strong}
use Rattle.journal_rules.specs.Counts.{first_tokens}
use Rattle.journal_rules.specs.Calm.{used_at}
use Rattle.journal_rules.proofs.NetLemmas.{at_place}
use Rattle.table_steps.specs.declared.view.TurnDuty.{TurnDuty}
use Rattle.table_steps.specs.declared.view.TurnDuty.TheVariants.{Fresh}
use Rattle.table_steps.specs.inside.Duties.{DutyCoord, place, runs, running, tickets, token, source, weakly, awaits, unset, duty_weigh, any, nil, sum_over, EdgePart, DutyPart}
use Rattle.table_steps.specs.Giving.{one_if, times}
use Rattle.table_steps.specs.inside.Opening.{count_without_token, is_empty, source_duties, full_duties, first_duties}
use Rattle.table_steps.proofs.Counting.{is_one, is_strong_into, times_strong_in}
use Rattle.table_steps.proofs.StartDuties.{one_self}

-- what no release counts, the first items don't
duty_weigh_append : (c : DutyCoord) (xs ys : List TurnDuty) → duty_weigh c (xs ++ ys) ≡ duty_weigh c xs + duty_weigh c ys
duty_weigh_append c [] ys = omega arith
duty_weigh_append c (x ∷ xs) ys = omega (arith, duty_weigh_append c xs ys)

source_part : (c : DutyCoord) (t : ℕ) (b : Bool) → duty_weigh c (Fresh t Source ∷ []) ≡ 0 → duty_weigh c (source_duties t b) ≡ 0
source_part c t true none = none
source_part c t false none = refl

full_part : (c : DutyCoord) (t : ℕ) (es : List ℕ) (n : ℕ) → duty_weigh c (Fresh t Strong ∷ []) ≡ 0 → duty_weigh c (full_duties t es n) ≡ 0
full_part c t [] n none = refl
full_part c t (e ∷ es) zero none = none
full_part c t (e ∷ es) (suc n) none = refl

first_more : (net : NetRows) (c : DutyCoord) (t n : ℕ) → duty_weigh c (first_duties net t (suc n)) ≡ duty_weigh c (source_duties t (is_empty (in_edges net t))) + duty_weigh c (full_duties t (strong_in net t) (count_without_token net (strong_in net t))) + duty_weigh c (first_duties net (suc t) n)
first_more net c t n =
    let a = source_duties t (is_empty (in_edges net t)) in let b = full_duties t (strong_in net t) (count_without_token net (strong_in net t)) in omega (arith, duty_weigh_append c (a ++ b) (first_duties net (suc t) n), duty_weigh_append c a b)

first_none : (net : NetRows) (c : DutyCoord) → ((t : ℕ) → duty_weigh c (Fresh t Source ∷ []) ≡ 0) → ((t : ℕ) → duty_weigh c (Fresh t Strong ∷ []) ≡ 0) → (t n : ℕ) → duty_weigh c (first_duties net t n) ≡ 0
first_none net c a b t zero = refl
first_none net c a b t (suc n) = omega (arith, first_more net c t n, source_part c t (is_empty (in_edges net t)) (a t), full_part c t (strong_in net t) (count_without_token net (strong_in net t)) (b t), first_none net c a b (suc t) n)

-- the releases of one source task
first_before : (net : NetRows) (s t n : ℕ) → s < t → (duty_weigh (source s) (first_duties net t n) ≡ 0) × (duty_weigh (unset s) (first_duties net t n) ≡ 0)
first_before net s t zero before = (refl, refl)
first_before net s t (suc n) before =
    let miss : one_if (eqb t s) ≡ 0 = let m : eqb t s ≡ false = grind (arith, nat_tests) in ap one_if m in
    let rest = first_before net s (suc t) n (omega arith) in (
      omega (arith, first_more net (source s) t n, source_part (source s) t (is_empty (in_edges net t)) (omega (arith, miss)), full_part (source s) t (strong_in net t) (count_without_token net (strong_in net t)) refl, rest.0),
      omega (arith, first_more net (unset s) t n, source_part (unset s) t (is_empty (in_edges net t)) refl, full_part (unset s) t (strong_in net t) (count_without_token net (strong_in net t)) (omega (arith, miss)), rest.1),
    )

full_own : (t : ℕ) (es : List ℕ) (n : ℕ) → es ≢ [] → duty_weigh (unset t) (full_duties t es n) ≡ nil n
full_own t [] n some = absurd (some refl)
full_own t (e ∷ es) zero some = omega (arith, one_self t)
full_own t (e ∷ es) (suc n) some = refl

first_at : (net : NetRows) (s t n : ℕ) → t ≤ s → s < t + n → (IsSource net s → duty_weigh (source s) (first_duties net t n) ≡ 1) × (strong_in net s ≢ [] → duty_weigh (unset s) (first_duties net t n) ≡ nil (count_without_token net (strong_in net s)))
first_at net s t zero low high = absurd (omega arith)
first_at net s t (suc n) low high = by_eq (cases_eq t s) (λ a b. first_at net s (suc t) n a b)
  where
    by_eq : (t ≡ s) ⊎ (t ≢ s) → (suc t ≤ s → s < suc t + n → (IsSource net s → duty_weigh (source s) (first_duties net (suc t) n) ≡ 1) × (strong_in net s ≢ [] → duty_weigh (unset s) (first_duties net (suc t) n) ≡ nil (count_without_token net (strong_in net s))))
        → (IsSource net s → duty_weigh (source s) (first_duties net t (suc n)) ≡ 1) × (strong_in net s ≢ [] → duty_weigh (unset s) (first_duties net t (suc n)) ≡ nil (count_without_token net (strong_in net s)))
    by_eq (inl same) rest = let later = first_before net s (suc t) n (omega arith) in (
      λ is. omega (
        arith,
        first_more net (source s) t n,
        full_part (source s) t (strong_in net t) (count_without_token net (strong_in net t)) refl,
        later.0,
        ap (λ b. duty_weigh (source s) (source_duties t b)) (ap is_empty (ap (in_edges net) same ∙ is)),
        ap (λ k. one_if (eqb k s)) same,
        one_self s,
      ),
      λ some. subst (λ k. duty_weigh (unset s) (first_duties net k (suc n)) ≡ nil (count_without_token net (strong_in net s))) (sym same)
          (omega (arith, first_more net (unset s) s n, source_part (unset s) s (is_empty (in_edges net s)) refl, (subst (λ k. duty_weigh (unset s) (first_duties net (suc k) n) ≡ 0) same later.1), full_own s (strong_in net s) (count_without_token net (strong_in net s)) some)),
    )
    by_eq (inr other) rest =
        let miss : one_if (eqb t s) ≡ 0 = let m : eqb t s ≡ false = grind (arith, nat_tests) in ap one_if m in
        let later = rest (omega arith) (omega arith) in (
          λ is. omega (arith, first_more net (source s) t n, full_part (source s) t (strong_in net t) (count_without_token net (strong_in net t)) refl, source_part (source s) t (is_empty (in_edges net t)) (omega (arith, miss)), later.0 is),
          λ some. omega (arith, first_more net (unset s) t n, source_part (unset s) t (is_empty (in_edges net t)) refl, full_part (unset s) t (strong_in net t) (count_without_token net (strong_in net t)) (omega (arith, miss)), later.1 some),
        )

-- an edge begins with one token at most, and a weak one with none
first_once : (net : NetRows) (e : ℕ) → first_tokens net e ≤ 1
first_once net e = by_row (slice_get net.edges e)
  where
    at_most : (b : Bool) → one_if b ≤ 1
    at_most true = omega arith
    at_most false = omega arith

    by_row : (row : Option EdgeRow) → option_map_or (λ (r : EdgeRow). one_if r.start) row 0 ≤ 1
    by_row None = omega arith
    by_row (Some row) = at_most row.start

first_weak : (net : NetRows) → IsNet net → (e : ℕ) → is_weak net e ≡ true → first_tokens net e ≡ 0
first_weak net rows e = by_row (slice_get net.edges e) refl
  where
    by_start : (b w : Bool) → (IsTrue b → w ≡ false) → w ≡ true → one_if b ≡ 0
    by_start true w strong weak = absurd (false≢true (sym (strong refl) ∙ weak))
    by_start false w strong weak = refl

    by_row : (row : Option EdgeRow) → slice_get net.edges e ≡ row → option_map_or (is_weak_row net) row false ≡ true → option_map_or (λ (r : EdgeRow). one_if r.start) row 0 ≡ 0
    by_row None is weak = refl
    by_row (Some row) is weak = by_start row.start (is_weak_row net row) (at_place (IsEdgeOf net) net.edges e row rows.edges is).starts_strong weak

any_once : (n : ℕ) → n ≤ 1 → n ≡ any n
any_once zero h = refl
any_once (suc zero) h = refl
any_once (suc (suc n)) h = absurd (omega arith)

nil_once : (n : ℕ) → n ≤ 1 → nil n + n ≡ 1
nil_once zero h = refl
nil_once (suc zero) h = refl
nil_once (suc (suc n)) h = absurd (omega arith)

bare_sum : (net : NetRows) (es : List ℕ) → count_without_token net es + sum_over (first_tokens net) es ≡ length es
bare_sum net [] = refl
bare_sum net (e ∷ es) = omega (arith, bare_sum net es, nil_once (first_tokens net e) (first_once net e))

used_none : (net : NetRows) (e : ℕ) → used_at net e [] ≡ 0
used_none net e = by_row (slice_get net.edges e)
  where
    by_weak : (w : Bool) → ◌≡◌ {A = ℕ} (cond w 0 0) 0
    by_weak true = refl
    by_weak false = refl

    by_row : (row : Option EdgeRow) → ◌≡◌ {A = ℕ} (cond (option_map_or (is_weak_row net) row false) 0 (option_map_or (λ (r : EdgeRow). 0) row 0)) 0
    by_row None = refl
    by_row (Some row) = by_weak (is_weak_row net row)

-- a task with a strong in-edge is one of the net's
pub strong_below : (net : NetRows) → IsNet net → (t : ℕ) → strong_in net t ≢ [] → t < length net.tasks
strong_below net rows t some = by_list (strong_in net t) refl
  where
    by_test : (b w : Bool) (u : ℕ) → (b ≡ true → u ≡ t) → u < length net.tasks → b && not w ≡ true → t < length net.tasks
    by_test true w u same below h = omega (arith, same refl)
    by_test false w u same below h = absurd (false≢true h)

    by_row : (e : ℕ) (row : Option EdgeRow) → slice_get net.edges e ≡ row → option_map_or (λ (r : EdgeRow). (r.to == t) && not (is_weak_row net r)) row false ≡ true → t < length net.tasks
    by_row e None is h = absurd (false≢true h)
    by_row e (Some row) is h = by_test (row.to == t) (is_weak_row net row) row.to (λ hit. grind (arith, nat_tests)) (at_place (IsEdgeOf net) net.edges e row rows.edges is).to_in_range h

    by_list : (es : List ℕ) → strong_in net t ≡ es → t < length net.tasks
    by_list [] is = absurd (some is)
    by_list (e ∷ es) is = by_row e (slice_get net.edges e) refl (is_one (is_strong_into net t e) (omega (arith, times_strong_in net t e, ap (times e) is, one_self e)))

-- nothing is counted in these coordinates, and the accounts of edges and duties hold
pub record Begins (net : NetRows) (edge join : ℕ → ℕ) (T : DutyCoord → ℕ) : Type 0 where
  pub no_place : (m : ℕ) → T (place m) ≡ 0
  pub no_run : (m t : ℕ) → T (runs m t) ≡ 0
  pub none_running : T running ≡ 0
  pub no_ticket : T tickets ≡ 0
  pub by_edges : EdgePart net edge [] T
  pub by_duties : DutyPart net edge join (first_tokens net) [] T

pub begins : (net : NetRows) (edge join : ℕ → ℕ) → IsNet net → ((e : ℕ) → edge e ≡ first_tokens net e) → ((t : ℕ) → join t ≡ count_without_token net (strong_in net t))
    → Begins net edge join (λ c. duty_weigh c (first_duties net 0 (length net.tasks)))
begins net edge join rows edge_is join_is = let all = length net.tasks in record {
  no_place = λ m. first_none net (place m) (λ t. refl) (λ t. refl) 0 all;
  no_run = λ m t. first_none net (runs m t) (λ u. refl) (λ u. refl) 0 all;
  none_running = first_none net running (λ t. refl) (λ t. refl) 0 all;
  no_ticket = first_none net tickets (λ t. refl) (λ t. refl) 0 all;
  by_edges = λ e. omega (arith, used_none net e, edge_is e, first_none net (token e) (λ t. refl) (λ t. refl) 0 all);
  by_duties = record {
    sources = λ t is below. omega (arith, (first_at net t 0 all (omega arith) (omega arith)).0 is);
    weaks = λ e weak. omega (arith, edge_is e, first_weak net rows e weak, first_none net (weakly e) (λ t. refl) (λ t. refl) 0 all);
    bits = first_once net;
    states = λ e strong. omega (arith, any_once (first_tokens net e) (first_once net e), ap any (edge_is e), first_none net (awaits e) (λ t. refl) (λ t. refl) 0 all);
    joins = λ t. omega (arith, join_is t, bare_sum net (strong_in net t));
    unsets = λ t some. omega (arith, ap nil (join_is t), (first_at net t 0 all (omega arith) (omega (arith, strong_below net rows t some))).1 some);
  };
}
