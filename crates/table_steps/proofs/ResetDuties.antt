-- A join count set again, and a token taken, keep the accounts.
use Rattle.std.proofs.Common.{◌≡◌, ◌≢◌, ◌⊎◌, inl, inr, ℕ, zero, suc, ◌+◌, ◌≤◌, Bool, true, false, cond, eqb, List, [], ◌∷◌, length, sym, refl, ap, ◌∙◌, arith, get_or}
use Rattle.std.specs.List.{AllByRecursion}
use Rattle.std.proofs.lemmas.Bool.Decides.{nat_tests}
use Rattle.std.proofs.lemmas.Bool.{cases_eq}
use Rattle.std.proofs.lemmas.List.Elements.{recursion_from_All}
use Rattle.task_graph.specs.NetRows.{NetRows}
use Rattle.task_graph.specs.Net.{strong_in, is_weak}
use Rattle.journal_rules.specs.declared.entry.Cause.{Cause}
use Rattle.journal_rules.specs.declared.entry.Cause.TheVariants.{Source, Strong, Weak}
use Rattle.journal_rules.specs.declared.entry.Entry.{Entry}
use Rattle.table_steps.specs.declared.view.TurnDuty.TheVariants.{Fresh, Collecting}
use Rattle.table_steps.specs.inside.Duties.{DutyCoord, token, source, weakly, awaits, unset, any, nil, sum_over, DutyPart, DutyMoves, Raised, after_take, TakesFrom}
use Rattle.table_steps.specs.Giving.{one_if, times}
use Rattle.table_steps.proofs.Counting.{times_at, times_append, times_strong_in, is_strong_into, is_one}
use Rattle.table_steps.proofs.StartDuties.{one_self}
use Rattle.table_steps.proofs.GiveDuties.{any_suc, apart}
use Rattle.table_steps.proofs.CountDuties.{into_one}

-- each edge of a task's strong ones ends strongly in it
pub all_into : (net : NetRows) (t : ℕ) → AllByRecursion (λ e. is_strong_into net t e ≡ true) (strong_in net t)
all_into net t = recursion_from_All _ (strong_in net t) (λ k d below. let e = get_or (strong_in net t) k d in is_one (is_strong_into net t e) (omega (arith, times_strong_in net t e, times_at (strong_in net t) k d below)))

-- where all bits of a list make its length, each is set
pub sum_full : (f : ℕ → ℕ) (at : ℕ) (es : List ℕ) → ((e : ℕ) → f e ≤ 1) → sum_over f es ≡ length es → 1 ≤ times at es → f at ≡ 1
sum_full f at [] bits full there = absurd (omega arith)
sum_full f at (e ∷ es) bits full there = by_eq (cases_eq e at) (λ h. sum_full f at es bits (omega (arith, full, bits e, most es)) h)
  where
    most : (xs : List ℕ) → sum_over f xs ≤ length xs
    most [] = omega arith
    most (x ∷ xs) = omega (arith, bits x, most xs)

    by_eq : (e ≡ at) ⊎ (e ≢ at) → (1 ≤ times at es → f at ≡ 1) → f at ≡ 1
    by_eq (inl same) rest = let here : f e ≡ f at = ap f same in omega (arith, here, full, bits e, most es)
    by_eq (inr other) rest = let miss : one_if (eqb e at) ≡ 0 = let m : eqb e at ≡ false = grind (arith, nat_tests) in ap one_if m in rest (omega (arith, there, miss))

-- the bits after one task's are cleared
pub sum_cleared : (net : NetRows) (f : ℕ → ℕ) (t s : ℕ) (es : List ℕ) → AllByRecursion (λ e. is_strong_into net s e ≡ true) es → (g : ℕ → ℕ) → ((e : ℕ) → g e + one_if (is_strong_into net t e) ≡ f e)
    → sum_over g es + cond (eqb t s) (length es) 0 ≡ sum_over f es
sum_cleared net f t s [] into g cleared = by_test (eqb t s)
  where
    by_test : (b : Bool) → 0 + cond b 0 0 ≡ 0
    by_test true = omega arith
    by_test false = omega arith
sum_cleared net f t s (e ∷ es) into g cleared = by_test (eqb t s) (into_one net t s e into.0) (sum_cleared net f t s es into.1 g cleared)
  where
    swap : (a b : ℕ) → one_if (eqb a b) ≡ one_if (eqb b a)
    swap a b = by_eq (cases_eq a b)
      where
        by_eq : (a ≡ b) ⊎ (a ≢ b) → one_if (eqb a b) ≡ one_if (eqb b a)
        by_eq (inl same) = ap one_if (let i : eqb a b ≡ eqb b a = grind (arith, nat_tests) in i)
        by_eq (inr other) = ap one_if (let i : eqb a b ≡ eqb b a = grind (arith, nat_tests) in i)

    by_bit : (b : Bool) → one_if (is_strong_into net t e) ≡ one_if b → sum_over g es + cond b (length es) 0 ≡ sum_over f es → sum_over g (e ∷ es) + cond b (length (e ∷ es)) 0 ≡ sum_over f (e ∷ es)
    by_bit true bit rest = omega (arith, bit, rest, cleared e)
    by_bit false bit rest = omega (arith, bit, rest, cleared e)

    by_test : (b : Bool) → one_if (is_strong_into net t e) ≡ one_if (eqb s t) → sum_over g es + cond (eqb t s) (length es) 0 ≡ sum_over f es → sum_over g (e ∷ es) + cond (eqb t s) (length (e ∷ es)) 0 ≡ sum_over f (e ∷ es)
    by_test b bit rest = by_bit (eqb t s) (bit ∙ swap s t) rest

-- The join count set again: what the release's seat knows.
pub is_clear : (n : ℕ) → 1 ≤ nil n → n ≡ 0
is_clear zero h = refl
is_clear (suc n) h = absurd (omega arith)

abbrev pub cleared_at : NetRows → ℕ → (ℕ → ℕ) → ℕ → ℕ
cleared_at net t counted e = cond (is_strong_into net t e) 0 (counted e)

abbrev pub SetAgain : NetRows → (ℕ → ℕ) → ℕ → (ℕ → ℕ) → Type 0
SetAgain net join t join' = (s : ℕ) → join' s ≡ join s + cond (eqb t s) (length (strong_in net s)) 0

pub reset_zero : (net : NetRows) (edge join counted : ℕ → ℕ) (journal : List Entry) (T T' : DutyCoord → ℕ) (t : ℕ) → DutyPart net edge join counted journal T → strong_in net t ≢ []
    → DutyMoves T (Fresh t Strong ∷ []) T' (Collecting t Strong [] (strong_in net t) ∷ []) → join t ≡ 0
reset_zero net edge join counted journal T T' t d some moved = is_clear (join t) (omega (arith, d.unsets t some, moved (unset t), one_self t))

pub reset_bits : (net : NetRows) (edge join counted : ℕ → ℕ) (journal : List Entry) (T : DutyCoord → ℕ) (t : ℕ) → DutyPart net edge join counted journal T → join t ≡ 0 → (e : ℕ) → cleared_at net t counted e + one_if (is_strong_into net t e) ≡ counted e
reset_bits net edge join counted journal T t d is_zero e = by_test (is_strong_into net t e) (λ into. sum_full counted e (strong_in net t) d.bits (omega (arith, d.joins t, is_zero)) (omega (arith, times_strong_in net t e, ap one_if into)))
  where
    by_test : (b : Bool) → (b ≡ true → counted e ≡ 1) → cond b 0 (counted e) + one_if b ≡ counted e
    by_test true full = omega (arith, full refl)
    by_test false full = omega arith

pub reset_duties : (net : NetRows) (edge join join' counted : ℕ → ℕ) (journal : List Entry) (T T' : DutyCoord → ℕ) (t : ℕ) → DutyPart net edge join counted journal T → strong_in net t ≢ [] → SetAgain net join t join'
    → DutyMoves T (Fresh t Strong ∷ []) T' (Collecting t Strong [] (strong_in net t) ∷ []) → DutyPart net edge join' (cleared_at net t counted) journal T'
reset_duties net edge join join' counted journal T T' t d some again moved =
    let is_zero = reset_zero net edge join counted journal T T' t d some moved in
    let cleared = reset_bits net edge join counted journal T t d is_zero in record {
      sources = λ s a below. omega (arith, d.sources s a below, moved (source s));
      weaks = λ e weak. omega (arith, d.weaks e weak, moved (weakly e));
      bits = λ e. omega (arith, d.bits e, cleared e);
      states = λ e strong. omega (arith, d.states e strong, moved (awaits e), cleared e, times_strong_in net t e);
      joins = λ s. omega (arith, d.joins s, again s, sum_cleared net counted t s (strong_in net s) (all_into net s) (cleared_at net t counted) cleared);
      unsets = λ s a. unsets_at s a (cases_eq t s) is_zero;
    }
  where
    longer : (es : List ℕ) → es ≢ [] → nil (length es) ≡ 0
    longer [] a = absurd (a refl)
    longer (x ∷ xs) a = ap nil (let z : length (x ∷ xs) ≡ suc (length xs) = omega arith in z)

    unsets_at : (s : ℕ) → strong_in net s ≢ [] → (t ≡ s) ⊎ (t ≢ s) → join t ≡ 0 → T' (unset s) ≡ nil (join' s)
    unsets_at s a (inl same) is_zero =
        let hit : eqb t s ≡ true = grind (arith, nat_tests) in
        let z : join s ≡ 0 = ap join (sym same) ∙ is_zero in
        let now : join' s ≡ length (strong_in net s) = again s ∙ rw hit (omega (arith, z)) in
        let was : nil (join s) ≡ 1 = ap nil z in
        omega (arith, d.unsets s a, moved (unset s), was, ap one_if hit, ap nil now, longer (strong_in net s) a)
    unsets_at s a (inr other) is_zero =
        let miss : eqb t s ≡ false = grind (arith, nat_tests) in
        let still : join' s ≡ join s = again s ∙ rw miss (omega arith) in
        omega (arith, d.unsets s a, moved (unset s), ap one_if miss, ap nil still)

-- one token of the edge is with the seat
pub token_taken : (T T' : DutyCoord → ℕ) (t : ℕ) (cause : Cause) (taken left : List ℕ) (found f e : ℕ) → DutyMoves T (Collecting t cause taken (f ∷ left) ∷ []) T' (after_take t cause taken found f left) → T' (token e) ≡ T (token e) + one_if (eqb f e)
token_taken T T' t Source taken left found f e moved = omega (arith, moved (token e), times_append e taken (f ∷ []))
token_taken T T' t (Weak h) taken left found f e moved = omega (arith, moved (token e), times_append e taken (f ∷ []))
token_taken T T' t Strong taken left zero f e moved = omega (arith, moved (token e), times_append e taken (f ∷ []))
token_taken T T' t Strong taken left (suc zero) f e moved = omega (arith, moved (token e), times_append e taken (f ∷ []))
token_taken T T' t Strong taken left (suc (suc k)) f e moved = omega (arith, moved (token e), times_append e taken (f ∷ []))

-- a strong release's
pub strong_taken : (net : NetRows) (edge edge' join counted : ℕ → ℕ) (journal : List Entry) (T T' : DutyCoord → ℕ) (t : ℕ) (taken left : List ℕ) (found f : ℕ) → DutyPart net edge join counted journal T
    → is_weak net f ≡ false → edge f ≡ found → Raised edge' f edge → DutyMoves T (Collecting t Strong taken (f ∷ left) ∷ []) T' (after_take t Strong taken found f left) → DutyPart net edge' join counted journal T'
strong_taken net edge edge' join counted journal T T' t taken left zero f d is found_is raised moved = absurd (omega (arith, d.states f is, moved (awaits f), one_self f, ap any found_is))
strong_taken net edge edge' join counted journal T T' t taken left (suc zero) f d is found_is raised moved = record {
  sources = λ s a below. omega (arith, d.sources s a below, moved (source s));
  weaks = λ e weak. omega (arith, d.weaks e weak, moved (weakly e), raised e, apart net e f true weak is);
  bits = d.bits;
  states = λ e strong. state_at e (cases_eq f e) (d.states e strong);
  joins = d.joins;
  unsets = λ s a. omega (arith, d.unsets s a, moved (unset s));
}
  where
    state_at : (e : ℕ) → (f ≡ e) ⊎ (f ≢ e) → counted e + T (awaits e) ≡ any (edge e) → counted e + T' (awaits e) ≡ any (edge' e)
    state_at e (inl same) state =
        let hit : one_if (eqb f e) ≡ 1 = ap (λ k. one_if (eqb f k)) (sym same) ∙ one_self f in
        let was : any (edge e) ≡ 1 = any_suc (edge e) 0 (ap edge (sym same) ∙ found_is) in
        let now : any (edge' e) ≡ 0 = ap any (let z : edge' e ≡ 0 = omega (arith, raised e, hit, ap edge same, found_is) in z) in
        omega (arith, state, moved (awaits e), hit, was, now)
    state_at e (inr other) state =
        let miss : one_if (eqb f e) ≡ 0 = let m : eqb f e ≡ false = grind (arith, nat_tests) in ap one_if m in
        omega (arith, state, moved (awaits e), miss, ap any (let z : edge' e ≡ edge e = omega (arith, raised e, miss) in z))
strong_taken net edge edge' join counted journal T T' t taken left (suc (suc k)) f d is found_is raised moved = record {
  sources = λ s a below. omega (arith, d.sources s a below, moved (source s));
  weaks = λ e weak. omega (arith, d.weaks e weak, moved (weakly e), raised e, apart net e f true weak is);
  bits = d.bits;
  states = λ e strong. state_at e (cases_eq f e) (d.states e strong);
  joins = d.joins;
  unsets = λ s a. omega (arith, d.unsets s a, moved (unset s));
}
  where
    state_at : (e : ℕ) → (f ≡ e) ⊎ (f ≢ e) → counted e + T (awaits e) ≡ any (edge e) → counted e + T' (awaits e) ≡ any (edge' e)
    state_at e (inl same) state =
        let hit : one_if (eqb f e) ≡ 1 = ap (λ k. one_if (eqb f k)) (sym same) ∙ one_self f in
        let was : any (edge e) ≡ 1 = any_suc (edge e) (suc k) (ap edge (sym same) ∙ found_is) in
        let now : any (edge' e) ≡ 1 = any_suc (edge' e) k (let z : edge' e ≡ suc k = omega (arith, raised e, hit, ap edge same, found_is) in z) in
        omega (arith, state, moved (awaits e), hit, was, now)
    state_at e (inr other) state =
        let miss : one_if (eqb f e) ≡ 0 = let m : eqb f e ≡ false = grind (arith, nat_tests) in ap one_if m in
        omega (arith, state, moved (awaits e), miss, ap any (let z : edge' e ≡ edge e = omega (arith, raised e, miss) in z))

-- a weak release's
pub weak_taken : (net : NetRows) (edge edge' join counted : ℕ → ℕ) (journal : List Entry) (T T' : DutyCoord → ℕ) (t h : ℕ) (taken left : List ℕ) (found f : ℕ) → DutyPart net edge join counted journal T
    → is_weak net f ≡ true → Raised edge' f edge → DutyMoves T (Collecting t (Weak h) taken (f ∷ left) ∷ []) T' (after_take t (Weak h) taken found f left) → DutyPart net edge' join counted journal T'
weak_taken net edge edge' join counted journal T T' t h taken left found f d is raised moved = record {
  sources = λ s a below. omega (arith, d.sources s a below, moved (source s));
  weaks = λ e weak. omega (arith, d.weaks e weak, moved (weakly e), raised e);
  bits = d.bits;
  states = λ e strong. omega (arith, d.states e strong, moved (awaits e), ap any (let z : edge' e ≡ edge e = omega (arith, raised e, apart net e f false strong is) in z));
  joins = d.joins;
  unsets = λ s a. omega (arith, d.unsets s a, moved (unset s));
}

pub take_duties : (net : NetRows) (edge edge' join counted : ℕ → ℕ) (journal : List Entry) (T T' : DutyCoord → ℕ) (t : ℕ) (cause : Cause) (taken left : List ℕ) (found f : ℕ) → DutyPart net edge join counted journal T
    → TakesFrom net cause f → edge f ≡ found → Raised edge' f edge → DutyMoves T (Collecting t cause taken (f ∷ left) ∷ []) T' (after_take t cause taken found f left) → DutyPart net edge' join counted journal T'
take_duties net edge edge' join counted journal T T' t Source taken left found f d takes found_is raised moved = absurd takes
take_duties net edge edge' join counted journal T T' t Strong taken left found f d takes found_is raised moved = strong_taken net edge edge' join counted journal T T' t taken left found f d takes found_is raised moved
take_duties net edge edge' join counted journal T T' t (Weak h) taken left found f d takes found_is raised moved = weak_taken net edge edge' join counted journal T T' t h taken left found f d takes raised moved
