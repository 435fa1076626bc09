-- An edge counted, a join count set again, and a token taken keep the accounts.
use Rattle.std.proofs.Common.{◌≡◌, ◌≢◌, ◌⊎◌, inl, inr, ℕ, zero, suc, ◌+◌, ◌≤◌, Bool, true, false, not, ◌&&◌, eqb, List, [], ◌∷◌, length, Option, Some, None, sym, refl, ap, ◌∙◌, arith}
use Rattle.std.specs.Prelude.{slice_get, ◌==◌}
use Rattle.std.specs.Option.{option_map_or}
use Rattle.std.proofs.lemmas.Bool.Decides.{nat_tests}
use Rattle.std.proofs.lemmas.Bool.{cases_eq, false≢true}
use Rattle.task_graph.specs.NetRows.{NetRows}
use Rattle.task_graph.specs.Net.{strong_in, is_weak, is_weak_row}
use Rattle.task_graph.specs.declared.net.EdgeRow.{EdgeRow}
use Rattle.journal_rules.specs.declared.entry.Entry.{Entry}
use Rattle.table_steps.specs.declared.view.TurnDuty.TheVariants.{Counting}
use Rattle.table_steps.specs.inside.Duties.{DutyCoord, token, source, weakly, awaits, unset, any, nil, sum_over, EdgePart, DutyPart, DutyMoves, Raised, after_count}
use Rattle.table_steps.specs.Giving.{one_if, times}
use Rattle.table_steps.proofs.Counting.{times_strong_in, is_strong_into}
use Rattle.table_steps.proofs.StartDuties.{one_self}

-- an edge ends in one task
pub into_one : (net : NetRows) (s t e : ℕ) → is_strong_into net t e ≡ true → one_if (is_strong_into net s e) ≡ one_if (eqb t s)
into_one net s t e = by_row (slice_get net.edges e)
  where
    by_tests : (u : ℕ) (w : Bool) (b : Bool) → (b ≡ true → u ≡ t) → b && not w ≡ true → one_if (eqb u s && not w) ≡ one_if (eqb t s)
    by_tests u true true same h = absurd (false≢true h)
    by_tests u false true same h = ap one_if (let is : eqb u s ≡ eqb t s = ap (λ k. eqb k s) (same refl) in and_yes (eqb u s) ∙ is)
      where
        and_yes : (b : Bool) → b && true ≡ b
        and_yes true = refl
        and_yes false = refl
    by_tests u w false same h = absurd (false≢true h)

    by_row : (row : Option EdgeRow) → option_map_or (λ (r : EdgeRow). (r.to == t) && not (is_weak_row net r)) row false ≡ true
        → one_if (option_map_or (λ (r : EdgeRow). (r.to == s) && not (is_weak_row net r)) row false) ≡ one_if (eqb t s)
    by_row None h = absurd (false≢true h)
    by_row (Some row) h = by_tests row.to (is_weak_row net row) (row.to == t) (λ is. grind (arith, nat_tests)) h

-- what ends strongly in a task is strong
pub into_strong : (net : NetRows) (t e : ℕ) → is_strong_into net t e ≡ true → is_weak net e ≡ false
into_strong net t e = by_row (slice_get net.edges e)
  where
    by_tests : (b w : Bool) → b && not w ≡ true → w ≡ false
    by_tests true true h = absurd (false≢true h)
    by_tests true false h = refl
    by_tests false w h = absurd (false≢true h)

    by_row : (row : Option EdgeRow) → option_map_or (λ (r : EdgeRow). (r.to == t) && not (is_weak_row net r)) row false ≡ true → option_map_or (is_weak_row net) row false ≡ false
    by_row None h = absurd (false≢true h)
    by_row (Some row) h = by_tests (row.to == t) (is_weak_row net row) h

-- sums of a list's bits
pub sum_raised : (f g : ℕ → ℕ) (at : ℕ) (es : List ℕ) → Raised f at g → sum_over g es ≡ sum_over f es + times at es
sum_raised f g at [] raised = refl
sum_raised f g at (e ∷ es) raised = omega (arith, sum_raised f g at es raised, raised e, swap (eqb at e) (eqb e at) (by_eq (cases_eq at e)))
  where
    swap : (a b : Bool) → a ≡ b → one_if a ≡ one_if b
    swap a b is = ap one_if is

    by_eq : (at ≡ e) ⊎ (at ≢ e) → eqb at e ≡ eqb e at
    by_eq (inl same) = grind (arith, nat_tests)
    by_eq (inr other) = grind (arith, nat_tests)

-- one bit that isn't set
pub sum_short : (f : ℕ → ℕ) (at : ℕ) (es : List ℕ) → ((e : ℕ) → f e ≤ 1) → f at ≡ 0 → sum_over f es + times at es ≤ length es
sum_short f at [] bits clear = omega arith
sum_short f at (e ∷ es) bits clear = by_eq (cases_eq e at) (sum_short f at es bits clear)
  where
    by_eq : (e ≡ at) ⊎ (e ≢ at) → sum_over f es + times at es ≤ length es → sum_over f (e ∷ es) + times at (e ∷ es) ≤ length (e ∷ es)
    by_eq (inl same) rest = let here : f e ≡ 0 = ap f same ∙ clear in let hit : one_if (eqb e at) ≡ 1 = ap (λ k. one_if (eqb e k)) (sym same) ∙ one_self e in omega (arith, here, hit, rest)
    by_eq (inr other) rest = let miss : one_if (eqb e at) ≡ 0 = let m : eqb e at ≡ false = grind (arith, nat_tests) in ap one_if m in omega (arith, miss, bits e, rest)

-- An edge counted.
pub record Counts (net : NetRows) (edge join join' counted counted' : ℕ → ℕ) (t f found : ℕ) : Type 0 where
  pub into : is_strong_into net t f ≡ true
  pub found_is : join t ≡ found
  pub lowered : Raised join' t join
  pub set : Raised counted f counted'

pub count_edges : (net : NetRows) (edge : ℕ → ℕ) (journal : List Entry) (T T' : DutyCoord → ℕ) (t f found : ℕ) → EdgePart net edge journal T → DutyMoves T (Counting f ∷ []) T' (after_count t found) → EdgePart net edge journal T'
count_edges net edge journal T T' t f zero b moved e = omega (arith, b e, moved (token e))
count_edges net edge journal T T' t f (suc zero) b moved e = omega (arith, b e, moved (token e))
count_edges net edge journal T T' t f (suc (suc k)) b moved e = omega (arith, b e, moved (token e))

-- an edge that a duty awaits isn't counted, so its target's join word isn't 0
pub any_most : (n : ℕ) → any n ≤ 1
any_most zero = omega arith
any_most (suc n) = omega arith

pub counting_clear : (net : NetRows) (edge join counted : ℕ → ℕ) (journal : List Entry) (T T' : DutyCoord → ℕ) (t f found : ℕ) → DutyPart net edge join counted journal T → is_strong_into net t f ≡ true
    → DutyMoves T (Counting f ∷ []) T' (after_count t found) → counted f ≡ 0
counting_clear net edge join counted journal T T' t f zero d into moved = omega (arith, d.states f (into_strong net t f into), moved (awaits f), any_most (edge f), one_self f)
counting_clear net edge join counted journal T T' t f (suc zero) d into moved = omega (arith, d.states f (into_strong net t f into), moved (awaits f), any_most (edge f), one_self f)
counting_clear net edge join counted journal T T' t f (suc (suc k)) d into moved = omega (arith, d.states f (into_strong net t f into), moved (awaits f), any_most (edge f), one_self f)

pub join_above : (net : NetRows) (edge join counted : ℕ → ℕ) (journal : List Entry) (T : DutyCoord → ℕ) (t f : ℕ) → DutyPart net edge join counted journal T → is_strong_into net t f ≡ true → counted f ≡ 0 → 1 ≤ join t
join_above net edge join counted journal T t f d into clear = omega (arith, d.joins t, sum_short counted f (strong_in net t) d.bits clear, times_strong_in net t f, ap one_if into)

-- the releases of the target, and of the other tasks
pub count_unsets : (net : NetRows) (edge join join' counted counted' : ℕ → ℕ) (journal : List Entry) (T T' : DutyCoord → ℕ) (t f found : ℕ) → DutyPart net edge join counted journal T
    → Counts net edge join join' counted counted' t f found → DutyMoves T (Counting f ∷ []) T' (after_count t found) → (s : ℕ) → strong_in net s ≢ [] → T' (unset s) ≡ nil (join' s)
count_unsets net edge join join' counted counted' journal T T' t f found d c moved s some =
    by_eq found (cases_eq t s) c.found_is moved (join_above net edge join counted journal T t f d c.into (counting_clear net edge join counted journal T T' t f found d c.into moved))
  where
    by_eq : (k : ℕ) → (t ≡ s) ⊎ (t ≢ s) → join t ≡ k → DutyMoves T (Counting f ∷ []) T' (after_count t k) → 1 ≤ join t → T' (unset s) ≡ nil (join' s)
    by_eq zero same is moved above = absurd (omega arith)
    by_eq (suc zero) (inl same) is moved above =
        let hit : one_if (eqb t s) ≡ 1 = ap (λ k. one_if (eqb t k)) (sym same) ∙ one_self t in
        let was : nil (join s) ≡ 0 = ap nil (ap join (sym same) ∙ is) in
        let now : nil (join' s) ≡ 1 = ap nil (let z : join' s ≡ 0 = omega (arith, c.lowered s, hit, ap join same, is) in z) in
        omega (arith, d.unsets s some, moved (unset s), hit, was, now)
    by_eq (suc (suc k)) (inl same) is moved above =
        let hit : one_if (eqb t s) ≡ 1 = ap (λ k. one_if (eqb t k)) (sym same) ∙ one_self t in
        let was : nil (join s) ≡ 0 = ap nil (ap join (sym same) ∙ is) in
        let now : nil (join' s) ≡ 0 = ap nil (let z : join' s ≡ suc k = omega (arith, c.lowered s, hit, ap join same, is) in z) in
        omega (arith, d.unsets s some, moved (unset s), was, now)
    by_eq (suc zero) (inr other) is moved above =
        let miss : one_if (eqb t s) ≡ 0 = let m : eqb t s ≡ false = grind (arith, nat_tests) in ap one_if m in
        let still : nil (join' s) ≡ nil (join s) = ap nil (let z : join' s ≡ join s = omega (arith, c.lowered s, miss) in z) in
        omega (arith, d.unsets s some, moved (unset s), miss, still)
    by_eq (suc (suc k)) (inr other) is moved above =
        let miss : one_if (eqb t s) ≡ 0 = let m : eqb t s ≡ false = grind (arith, nat_tests) in ap one_if m in
        let still : nil (join' s) ≡ nil (join s) = ap nil (let z : join' s ≡ join s = omega (arith, c.lowered s, miss) in z) in
        omega (arith, d.unsets s some, moved (unset s), still)

pub count_duties : (net : NetRows) (edge join join' counted counted' : ℕ → ℕ) (journal : List Entry) (T T' : DutyCoord → ℕ) (t f found : ℕ) → DutyPart net edge join counted journal T
    → Counts net edge join join' counted counted' t f found → DutyMoves T (Counting f ∷ []) T' (after_count t found) → DutyPart net edge join' counted' journal T'
count_duties net edge join join' counted counted' journal T T' t f found d c moved = record {
  sources = λ s a below. omega (arith, d.sources s a below, at_source found moved s);
  weaks = λ e weak. d.weaks e weak ∙ sym (at_weak found moved e);
  bits = λ e. omega (arith, d.bits e, c.set e, clear_at e (cases_eq f e));
  states = λ e strong. omega (arith, d.states e strong, c.set e, at_awaits found moved e);
  joins = λ s. omega (arith, d.joins s, c.lowered s, sum_raised counted counted' f (strong_in net s) c.set, times_strong_in net s f, into_one net s t f c.into);
  unsets = count_unsets net edge join join' counted counted' journal T T' t f found d c moved;
}
  where
    at_source : (k : ℕ) → DutyMoves T (Counting f ∷ []) T' (after_count t k) → (s : ℕ) → T' (source s) ≡ T (source s)
    at_source zero moved s = omega (arith, moved (source s))
    at_source (suc zero) moved s = omega (arith, moved (source s))
    at_source (suc (suc k)) moved s = omega (arith, moved (source s))

    at_weak : (k : ℕ) → DutyMoves T (Counting f ∷ []) T' (after_count t k) → (e : ℕ) → T' (weakly e) ≡ T (weakly e)
    at_weak zero moved e = omega (arith, moved (weakly e))
    at_weak (suc zero) moved e = omega (arith, moved (weakly e))
    at_weak (suc (suc k)) moved e = omega (arith, moved (weakly e))

    at_awaits : (k : ℕ) → DutyMoves T (Counting f ∷ []) T' (after_count t k) → (e : ℕ) → T' (awaits e) + one_if (eqb f e) ≡ T (awaits e)
    at_awaits zero moved e = omega (arith, moved (awaits e))
    at_awaits (suc zero) moved e = omega (arith, moved (awaits e))
    at_awaits (suc (suc k)) moved e = omega (arith, moved (awaits e))

    clear_at : (e : ℕ) → (f ≡ e) ⊎ (f ≢ e) → counted e + one_if (eqb f e) ≤ 1
    clear_at e (inl same) = let z : counted e ≡ 0 = ap counted (sym same) ∙ counting_clear net edge join counted journal T T' t f found d c.into moved in let hit : one_if (eqb f e) ≡ 1 = ap (λ k. one_if (eqb f k)) (sym same) ∙ one_self f in omega arith
    clear_at e (inr other) = let miss : one_if (eqb f e) ≡ 0 = let m : eqb f e ≡ false = grind (arith, nat_tests) in ap one_if m in omega (arith, d.bits e)
