-- The account of slots after the steps on slots and tokens.
use Rattle.std.proofs.Common.{◌≡◌, ◌≢◌, ◌⊎◌, inl, inr, ℕ, ◌+◌, ◌≤◌, true, false, ◌&&◌, cond, eqb, List, sym, ap, ◌∙◌, subst, arith}
use Rattle.std.specs.Prelude.{◌==◌}
use Rattle.std.proofs.lemmas.Bool.Decides.{nat_tests}
use Rattle.std.proofs.lemmas.Bool.{cases_eq}
use Rattle.task_graph.specs.NetRows.{NetRows}
use Rattle.journal_rules.specs.declared.entry.Entry.{Entry}
use Rattle.journal_rules.specs.declared.entry.Part.{Part}
use Rattle.journal_rules.specs.declared.entry.Part.TheVariants.{From, First, Nothing}
use Rattle.journal_rules.specs.Calm.{IsCalm}
use Rattle.journal_rules.specs.DataRule.{last_part}
use Rattle.table_steps.specs.Giving.{one_if}
use Rattle.table_steps.specs.inside.Parcels.{same_part, DataPart}
use Rattle.table_steps.proofs.DataParts.{cases_part, part_self}

-- a part at one edge
abbrev pub at_edge : ℕ → Part → ℕ → Part → ℕ
at_edge f q e p = one_if ((f == e) && same_part q p)

abbrev pub lay : (ℕ → List Part) → ℕ → List Part → ℕ → List Part
lay label f qs e = cond (f == e) qs (label e)

abbrev kind : Part → ℕ
kind (From k) = 0
kind First = 0
kind Nothing = 1

from_real : (n : ℕ) → From n ≢ Nothing
from_real n is = omega (arith, ap kind is)

at_self : (f : ℕ) (q : Part) → at_edge f q f q ≡ 1
at_self f q = let hit : eqb f f ≡ true = grind (arith, nat_tests) in ap (λ b. one_if (b && same_part q q)) hit ∙ ap one_if (part_self q)

-- Where nothing but the due part is at a calm edge, a part that is there is the due one.
at_last : (net : NetRows) (journal : List Entry) (X : ℕ → Part → ℕ) (f : ℕ) (q : Part) → ((e : ℕ) → IsCalm net e journal → (p : Part) → p ≢ last_part e journal → X e p ≡ 0) → 1 ≤ X f q
    → (e : ℕ) → IsCalm net e journal → at_edge f q e (last_part e journal) ≡ one_if (f == e)
at_last net journal X f q stale some e calm = by_eq (cases_eq f e)
  where
    is_last : IsCalm net f journal → q ≡ last_part f journal
    is_last quiet = by_part (cases_part q (last_part f journal))
      where
        by_part : (q ≡ last_part f journal) ⊎ (q ≢ last_part f journal) → q ≡ last_part f journal
        by_part (inl is) = is
        by_part (inr other) = absurd (omega (arith, stale f quiet q other, some))

    by_eq : (f ≡ e) ⊎ (f ≢ e) → at_edge f q e (last_part e journal) ≡ one_if (f == e)
    by_eq (inl same) =
        let hit : eqb f e ≡ true = grind (arith, nat_tests) in
        let is : q ≡ last_part e journal = is_last (subst (λ k. IsCalm net k journal) (sym same) calm) ∙ ap (λ k. last_part k journal) same in
        ap (λ b. one_if (b && same_part q (last_part e journal))) hit ∙ ap (λ p. one_if (same_part q p)) (sym is) ∙ ap one_if (part_self q) ∙ sym (ap one_if hit)
    by_eq (inr other) = let miss : eqb f e ≡ false = grind (arith, nat_tests) in ap (λ b. one_if (b && same_part q (last_part e journal))) miss ∙ sym (ap one_if miss)

-- The parcel that a seat has for edge f is put behind those in the slot.
pub data_put : (net : NetRows) (journal : List Entry) (edge : ℕ → ℕ) (P P' Q Q' : ℕ → Part → ℕ) (F R R' : ℕ → ℕ) (f n : ℕ) → DataPart net journal edge P Q F R
    → ((e : ℕ) (p : Part) → P' e p + at_edge f (From n) e p ≡ P e p) → ((e : ℕ) (p : Part) → Q' e p ≡ Q e p + at_edge f (From n) e p) → ((e : ℕ) → R' e ≡ R e + one_if (f == e))
    → DataPart net journal edge P' Q' F R'
data_put net journal edge P P' Q Q' F R R' f n d moved laid ready = record {
  meets = d.meets;
  froms = λ e k. omega (arith, d.froms e k, moved e (From k), laid e (From k));
  firsts = λ e. omega (arith, d.firsts e, moved e First, laid e First);
  stale = λ e calm p other. omega (arith, d.stale e calm p other, moved e p, laid e p);
  due = λ e calm. omega (arith, d.due e calm, laid e (last_part e journal), ready e, at_last net journal P f (From n) (λ g quiet p other. omega (arith, d.stale g quiet p other)) (omega (arith, moved f (From n), at_self f (From n))) e calm);
}

-- A seat takes a parcel that lies in the slot of edge f.
pub data_take : (net : NetRows) (journal : List Entry) (edge : ℕ → ℕ) (P P' Q Q' : ℕ → Part → ℕ) (F F' R : ℕ → ℕ) (f : ℕ) (q : Part) → DataPart net journal edge P Q F R
    → ((e : ℕ) (p : Part) → P' e p ≡ P e p + at_edge f q e p) → ((e : ℕ) (p : Part) → Q' e p + at_edge f q e p ≡ Q e p) → ((e : ℕ) → F' e ≡ F e + one_if (f == e))
    → DataPart net journal edge P' Q' F' R
data_take net journal edge P P' Q Q' F F' R f q d moved left fetched = record {
  meets = d.meets;
  froms = λ e k. omega (arith, d.froms e k, moved e (From k), left e (From k));
  firsts = λ e. omega (arith, d.firsts e, moved e First, left e First);
  stale = λ e calm p other. omega (arith, d.stale e calm p other, moved e p, left e p);
  due = λ e calm. omega (arith, d.due e calm, left e (last_part e journal), fetched e, at_last net journal Q f q (λ g quiet p other. omega (arith, d.stale g quiet p other)) (omega (arith, left f q, at_self f q)) e calm);
}

-- A token given or taken moves with what says where its parcel is.
pub data_token : (net : NetRows) (journal : List Entry) (edge edge' : ℕ → ℕ) (P Q : ℕ → Part → ℕ) (F F' R R' : ℕ → ℕ) → DataPart net journal edge P Q F R
    → ((e : ℕ) → edge' e + R' e + F e ≡ edge e + R e + F' e) → DataPart net journal edge' P Q F' R'
data_token net journal edge edge' P Q F F' R R' d moved = record {
  meets = d.meets;
  froms = d.froms;
  firsts = d.firsts;
  stale = d.stale;
  due = λ e calm. omega (arith, d.due e calm, moved e);
}

-- On an edge f that isn't calm a parcel may be left away, or none be found.
pub data_miss : (net : NetRows) (journal : List Entry) (edge : ℕ → ℕ) (P P' Q Q' : ℕ → Part → ℕ) (F F' R R' : ℕ → ℕ) (f : ℕ) → DataPart net journal edge P Q F R → ¬ IsCalm net f journal
    → ((e : ℕ) (p : Part) → p ≢ Nothing → P' e p ≤ P e p) → ((e : ℕ) → f ≢ e → (p : Part) → P' e p ≡ P e p) → ((e : ℕ) (p : Part) → Q' e p ≡ Q e p) → ((e : ℕ) → f ≢ e → (F' e ≡ F e) × (R' e ≡ R e)) → DataPart net journal edge P' Q' F' R'
data_miss net journal edge P P' Q Q' F F' R R' f d restless fewer alike_parts still alike = record {
  meets = d.meets;
  froms = λ e n. omega (arith, d.froms e n, fewer e (From n) (from_real n), still e (From n));
  firsts = λ e. omega (arith, d.firsts e, fewer e First (λ is. omega (arith, ap kind is)), still e First);
  stale = λ e calm p other. omega (arith, d.stale e calm p other, alike_parts e (off e calm) p, still e p);
  due = λ e calm. let apart = off e calm in omega (arith, d.due e calm, (alike e apart).0, (alike e apart).1, still e (last_part e journal));
}
  where
    off : (e : ℕ) → IsCalm net e journal → f ≢ e
    off e calm same = restless (subst (λ k. IsCalm net k journal) (sym same) calm)

-- Counts that are the same.
pub data_alike : (net : NetRows) (journal : List Entry) (edge : ℕ → ℕ) (P P' Q Q' : ℕ → Part → ℕ) (F F' R R' : ℕ → ℕ) → DataPart net journal edge P Q F R
    → ((e : ℕ) (p : Part) → P' e p ≡ P e p) → ((e : ℕ) (p : Part) → Q' e p ≡ Q e p) → ((e : ℕ) → F' e ≡ F e) → ((e : ℕ) → R' e ≡ R e) → DataPart net journal edge P' Q' F' R'
data_alike net journal edge P P' Q Q' F F' R R' d parts lays fs rs = record {
  meets = d.meets;
  froms = λ e n. omega (arith, d.froms e n, parts e (From n), lays e (From n));
  firsts = λ e. omega (arith, d.firsts e, parts e First, lays e First);
  stale = λ e calm p other. omega (arith, d.stale e calm p other, parts e p, lays e p);
  due = λ e calm. omega (arith, d.due e calm, fs e, rs e, lays e (last_part e journal));
}
