-- Tokens given, counted, set again and taken keep the accounts.
use Rattle.std.proofs.Common.{◌≡◌, ◌≢◌, ◌⊎◌, inl, inr, ℕ, zero, suc, ◌+◌, Bool, true, false, not, eqb, List, [], ◌∷◌, sym, ap, ◌∙◌, arith}
use Rattle.std.proofs.lemmas.Bool.Decides.{nat_tests}
use Rattle.std.proofs.lemmas.Bool.{cases_eq, false≢true}
use Rattle.task_graph.specs.NetRows.{NetRows}
use Rattle.task_graph.specs.Net.{is_weak}
use Rattle.journal_rules.specs.declared.entry.Entry.{Entry}
use Rattle.table_steps.specs.declared.view.TurnDuty.TheVariants.{Owes}
use Rattle.table_steps.specs.inside.Duties.{DutyCoord, token, source, weakly, awaits, unset, any, EdgePart, DutyPart, DutyMoves, Raised, after_give}
use Rattle.table_steps.specs.Giving.{one_if}
use Rattle.table_steps.proofs.StartDuties.{one_self}

pub any_suc : (n k : ℕ) → n ≡ suc k → any n ≡ 1
any_suc n k is = ap any is

-- a weak edge is no strong one
pub apart : (net : NetRows) (e f : ℕ) (w : Bool) → is_weak net e ≡ w → is_weak net f ≡ not w → one_if (eqb f e) ≡ 0
apart net e f w e_is f_is = by_eq (cases_eq f e)
  where
    differ : (b : Bool) → b ≡ not b → one_if (eqb f e) ≡ 0
    differ true h = absurd (false≢true (sym h))
    differ false h = absurd (false≢true h)

    by_eq : (f ≡ e) ⊎ (f ≢ e) → one_if (eqb f e) ≡ 0
    by_eq (inl same) = differ w (sym e_is ∙ ap (is_weak net) (sym same) ∙ f_is)
    by_eq (inr other) = let miss : eqb f e ≡ false = grind (arith, nat_tests) in ap one_if miss

-- A token given.
pub give_edges : (net : NetRows) (edge edge' : ℕ → ℕ) (journal : List Entry) (T T' : DutyCoord → ℕ) (w : Bool) (t found f : ℕ) (gives : List ℕ) → EdgePart net edge journal T → Raised edge f edge'
    → DutyMoves T (Owes (f ∷ gives) ∷ []) T' (after_give w t found f gives) → EdgePart net edge' journal T'
give_edges net edge edge' journal T T' true t found f gives b raised moved e = omega (arith, b e, raised e, moved (token e))
give_edges net edge edge' journal T T' false t zero f gives b raised moved e = omega (arith, b e, raised e, moved (token e))
give_edges net edge edge' journal T T' false t (suc n) f gives b raised moved e = omega (arith, b e, raised e, moved (token e))

-- a strong edge after a token more
pub give_state : (edge edge' counted : ℕ → ℕ) (T T' : DutyCoord → ℕ) (t found f e : ℕ) (gives : List ℕ) → edge f ≡ found → Raised edge f edge' → counted e + T (awaits e) ≡ any (edge e)
    → DutyMoves T (Owes (f ∷ gives) ∷ []) T' (after_give false t found f gives) → counted e + T' (awaits e) ≡ any (edge' e)
give_state edge edge' counted T T' t found f e gives found_is raised state moved = by_eq found (cases_eq f e) found_is moved
  where
    by_eq : (n : ℕ) → (f ≡ e) ⊎ (f ≢ e) → edge f ≡ n → DutyMoves T (Owes (f ∷ gives) ∷ []) T' (after_give false t n f gives) → counted e + T' (awaits e) ≡ any (edge' e)
    by_eq zero (inl same) is moved =
        let hit : one_if (eqb f e) ≡ 1 = ap (λ k. one_if (eqb f k)) (sym same) ∙ one_self f in
        let was : any (edge e) ≡ 0 = ap any (ap edge (sym same) ∙ is) in
        let now : any (edge' e) ≡ 1 = any_suc (edge' e) 0 (omega (arith, raised e, hit, ap edge same, is)) in
        omega (arith, state, moved (awaits e), hit, was, now)
    by_eq (suc n) (inl same) is moved =
        let was : any (edge e) ≡ 1 = any_suc (edge e) n (ap edge (sym same) ∙ is) in
        let hit : one_if (eqb f e) ≡ 1 = ap (λ k. one_if (eqb f k)) (sym same) ∙ one_self f in
        let now : any (edge' e) ≡ 1 = any_suc (edge' e) (suc n) (omega (arith, raised e, hit, ap edge same, is)) in
        omega (arith, state, moved (awaits e), was, now)
    by_eq zero (inr other) is moved =
        let miss : one_if (eqb f e) ≡ 0 = let m : eqb f e ≡ false = grind (arith, nat_tests) in ap one_if m in
        let still : any (edge' e) ≡ any (edge e) = ap any (omega (arith, raised e, miss)) in
        omega (arith, state, moved (awaits e), miss, still)
    by_eq (suc n) (inr other) is moved =
        let miss : one_if (eqb f e) ≡ 0 = let m : eqb f e ≡ false = grind (arith, nat_tests) in ap one_if m in
        let still : any (edge' e) ≡ any (edge e) = ap any (omega (arith, raised e, miss)) in
        omega (arith, state, moved (awaits e), still)

pub give_duties : (net : NetRows) (edge edge' join counted : ℕ → ℕ) (journal : List Entry) (T T' : DutyCoord → ℕ) (w : Bool) (t found f : ℕ) (gives : List ℕ) → DutyPart net edge join counted journal T
    → is_weak net f ≡ w → edge f ≡ found → Raised edge f edge' → DutyMoves T (Owes (f ∷ gives) ∷ []) T' (after_give w t found f gives) → DutyPart net edge' join counted journal T'
give_duties net edge edge' join counted journal T T' true t found f gives d is found_is raised moved = record {
  sources = λ s a below. omega (arith, d.sources s a below, moved (source s));
  weaks = λ e weak. omega (arith, d.weaks e weak, raised e, moved (weakly e));
  bits = d.bits;
  states = λ e strong. omega (arith, d.states e strong, moved (awaits e), ap any (let same : edge' e ≡ edge e = omega (arith, raised e, apart net e f false strong is) in same));
  joins = d.joins;
  unsets = λ s a. omega (arith, d.unsets s a, moved (unset s));
}
give_duties net edge edge' join counted journal T T' false t zero f gives d is found_is raised moved = record {
  sources = λ s a below. omega (arith, d.sources s a below, moved (source s));
  weaks = λ e weak. omega (arith, d.weaks e weak, raised e, moved (weakly e), apart net e f true weak is);
  bits = d.bits;
  states = λ e strong. give_state edge edge' counted T T' t zero f e gives found_is raised (d.states e strong) moved;
  joins = d.joins;
  unsets = λ s a. omega (arith, d.unsets s a, moved (unset s));
}
give_duties net edge edge' join counted journal T T' false t (suc n) f gives d is found_is raised moved = record {
  sources = λ s a below. omega (arith, d.sources s a below, moved (source s));
  weaks = λ e weak. omega (arith, d.weaks e weak, raised e, moved (weakly e), apart net e f true weak is);
  bits = d.bits;
  states = λ e strong. give_state edge edge' counted T T' t (suc n) f e gives found_is raised (d.states e strong) moved;
  joins = d.joins;
  unsets = λ s a. omega (arith, d.unsets s a, moved (unset s));
}
