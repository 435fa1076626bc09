-- Each step of a book keeps its rule.
use Rattle.std.proofs.Common.{◌≡◌, ◌≢◌, ℕ, zero, suc, ◌+◌, ◌≤◌, List, [], ◌∷◌, ◌++◌, set, refl, sym, ap, ◌∙◌, subst, ⊎_elim, arith}
use mathlib.Core.Option.{some, some-ne-none, some-injective}
use lib.ListN.{get_elem?}
use Rattle.atomic_table.specs.Table.{State, Me, step, keeps as nothing_moves, Allows, Splits, Joins}
use Rattle.atomic_table.proofs.Lists.{at_set}
use Rattle.span_book.specs.declared.view.SpanView.{SpanView}
use Rattle.span_book.specs.inside.SpanViews.{IsBacked, KeepsBook, at, back_at, first_view, noted_of, nothing, one_teller, only_tellers, opened_at, opened_inside, runs_at, tellers_of, told_of, total, with_back, with_noted, with_opened, with_teller, without_one, without_tellers, IsSettled, IsTally, MayComeBack}
use Rattle.span_book.proofs.Totals.{Balances, at_none, at_same, at_sum, backed_push, backed_set, counts_none, keeps, none_counts, total_push, total_set}

abbrev holds : ℕ → State (Unit {0}) SpanView → Type 0
holds tellers s = KeepsBook tellers s.views

pub begins : (tellers : ℕ) → KeepsBook tellers (first_view tellers ∷ [])
begins tellers = record {
  each = first;
  all_tellers = omega arith;
  outermost = refl;
  spans = refl;
  inside = λ d. omega (arith, at_none d 0);
}
  where
    first : (i : ℕ) (v : SpanView) → get_elem? (first_view tellers ∷ []) i ≡ some v → IsBacked v
    first zero v e = subst IsBacked (some-injective _ _ e) record { by_run = λ h. absurd (omega arith); by_teller = λ h. refl }
    first (suc i) v e = absurd (some-ne-none v (sym e))

splits : (tellers id : ℕ) (v left right : SpanView) → Balances (λ f. f v) (λ f. f left + f right) → (IsBacked v → IsBacked left) → (IsBacked v → IsBacked right) → Splits (holds tellers) id v left right
splits tellers id v left right balances mine theirs s kept e =
    let own = kept.each id v e in
    keeps tellers s.views (set s.views id left ++ right ∷ []) (λ f. f v) (λ f. f left + f right) kept balances
    (λ f. omega (arith, total_set f s.views id v left e, total_push f (set s.views id left) right))
    (backed_push (set s.views id left) right (backed_set s.views id left kept.each (mine own)) (theirs own))

joins : (tellers id : ℕ) (v : SpanView) (other : ℕ) (w both : SpanView) → Balances (λ f. f v + f w) (λ f. f both + f nothing) → (IsBacked v → IsBacked w → IsBacked both) → Joins (holds tellers) id v other w both nothing
joins tellers id v other w both balances mine s kept e apart there =
    let was : get_elem? s.views other ≡ some w = ⊎_elim (λ (t : (other ≡ id) × (both ≡ w)). absurd (apart t.0)) (λ (t : (other ≢ id) × (get_elem? s.views other ≡ some w)). t.1) (at_set s.views id other both w there) in
    keeps tellers s.views (set (set s.views id both) other nothing) (λ f. f v + f w) (λ f. f both + f nothing) kept balances
    (λ f. omega (arith, total_set f s.views id v both e, total_set f (set s.views id both) other w nothing there))
    (backed_set (set s.views id both) other nothing (backed_set s.views id both kept.each (mine (kept.each id v e) (kept.each other w was)))
    record { by_run = λ h. refl; by_teller = λ h. refl })

-- a teller leaves
pub deals : (all id : ℕ) (v : SpanView) → 1 ≤ v.tellers → v.told ≡ 0 → Splits (holds all) id v (without_one v) one_teller
deals all id v enough untold =
    splits all id v (without_one v) one_teller
    record { tellers = omega arith; outermost = omega arith; spans = omega arith; inside = λ d. omega (arith, at_none d 0) }
    (λ own. record { by_run = own.by_run; by_teller = λ h. untold })
    (λ own. record { by_run = λ h. refl; by_teller = λ h. refl })

-- tellers come, and leave
pub comes : (all id : ℕ) (v : SpanView) (other : ℕ) (w : SpanView) → w ≡ only_tellers w → Joins (holds all) id v other w (with_teller v w) nothing
comes all id v other w is =
    joins all id v other w (with_teller v w)
    record {
      tellers = omega arith;
      outermost = omega (arith, none_at 0 w.runs runs);
      spans = omega (arith, noted);
      inside = λ d. omega (arith, none_at (suc d) w.runs runs, none_at d w.back back, none_at d w.opened opened, at_none d 0);
    }
    (λ own theirs. record {
      by_run = own.by_run;
      by_teller = λ h. omega (arith, own.by_teller (omega arith), theirs.by_teller (omega arith));
    })
  where
    runs : w.runs ≡ 0
    runs = ap (λ (u : SpanView). u.runs) is

    noted : w.noted ≡ 0
    noted = ap noted_of is

    opened : w.opened ≡ 0
    opened = ap (λ (u : SpanView). u.opened) is

    back : w.back ≡ 0
    back = ap (λ (u : SpanView). u.back) is

    none_at : (d n : ℕ) → n ≡ 0 → at d w.depth n ≡ 0
    none_at d n zero_is = ap (at d w.depth) zero_is ∙ at_none d w.depth

pub goes : (all id : ℕ) (v : SpanView) → Splits (holds all) id v (without_tellers v) (only_tellers v)
goes all id v =
    splits all id v (without_tellers v) (only_tellers v)
    record { tellers = omega arith; outermost = omega arith; spans = omega arith; inside = λ d. omega (arith, at_none d 0) }
    (λ own. record { by_run = own.by_run; by_teller = λ h. refl })
    (λ own. record { by_run = λ h. refl; by_teller = own.by_teller })

-- spans are noted
pub notes : (all slots id i n : ℕ) (me : Me (Unit {0}) SpanView) → 1 ≤ me.0.tellers → 1 ≤ me.0.runs → Allows (holds all) slots id me i (λ k. k) (λ k me'. me' ≡ (with_noted n me.0, me.1))
notes all slots id i n me telling running s kept len e small = (
  with_noted n me.0,
  nothing_moves,
  tt,
  keeps all s.views (set s.views id (with_noted n me.0)) (λ f. f me.0) (λ f. f (with_noted n me.0)) kept
      record { tellers = refl; outermost = refl; spans = omega arith; inside = λ d. omega arith }
      (λ f. total_set f s.views id me.0 (with_noted n me.0) e)
      (backed_set s.views id (with_noted n me.0) kept.each record { by_run = λ h. absurd (omega arith); by_teller = λ h. absurd (omega arith) }),
  refl,
)

-- a run is opened
pub opens : (all id : ℕ) (v : SpanView) → v.runs ≡ 1 → Splits (holds all) id v (with_opened v) (opened_inside v)
opens all id v one =
    splits all id v (with_opened v) (opened_inside v)
    record {
      tellers = omega arith;
      outermost = omega arith;
      spans = omega arith;
      inside = λ d. omega (arith, at_sum d v.depth v.opened 1, at_none d (suc v.depth));
    }
    (λ own. record { by_run = λ h. absurd (omega arith); by_teller = own.by_teller })
    (λ own. record { by_run = λ h. absurd (omega arith); by_teller = λ h. refl })

-- and comes back
pub comes_back : (all id : ℕ) (v : SpanView) (other : ℕ) (w : SpanView) → MayComeBack v w → Joins (holds all) id v other w (with_back v w) nothing
comes_back all id v other w may =
    joins all id v other w (with_back v w)
    record {
      tellers = omega (arith, may.tellers);
      outermost = omega (arith, outermost);
      spans = omega (arith, may.told);
      inside = λ d. omega (arith, run d, same d, at_sum d v.depth v.back 1, at_none d 0);
    }
    (λ own also. record { by_run = λ h. absurd (omega (arith, may.around)); by_teller = own.by_teller })
  where
    run : (d : ℕ) → at (suc d) w.depth w.runs ≡ at d v.depth 1
    run d = ap (λ (x : ℕ × ℕ). at (suc d) x.0 x.1) (λ i. (may.depth i, may.inner i))

    same : (d : ℕ) → at d w.depth w.back ≡ at d w.depth w.opened
    same d = ap (at d w.depth) may.all_back

    outermost : at 0 w.depth w.runs ≡ 0
    outermost = ap (λ e. at 0 e w.runs) may.depth

module _ (all : ℕ) (views : List SpanView) (id : ℕ) (v : SpanView) (tally : IsTally v) (kept : KeepsBook all views) (e : get_elem? views id ≡ some v) where
  abbrev others : List SpanView
  others = set views id nothing

  change : (f : SpanView → ℕ) → total f others + f v ≡ total f views + f nothing
  change f = total_set f views id v nothing e

  backed : (i : ℕ) (u : SpanView) → get_elem? others i ≡ some u → IsBacked u
  backed = backed_set views id nothing kept.each record { by_run = λ h. refl; by_teller = λ h. refl }

  -- of a view at this depth
  opened_none : (d depth runs opened : ℕ) → (runs ≡ 0 → opened ≡ 0) → at d depth runs ≡ 0 → at d depth opened ≡ 0
  opened_none zero zero runs opened h n = h n
  opened_none zero (suc x) runs opened h n = refl
  opened_none (suc d) zero runs opened h n = refl
  opened_none (suc d) (suc x) runs opened h n = opened_none d x runs opened h n

  no_opened : (d : ℕ) → total (runs_at d) others ≡ 0 → total (opened_at d) others ≡ 0
  no_opened d empty = counts_none (opened_at d) others (λ i u there. opened_none d u.depth u.runs u.opened (λ h. omega (arith, (backed i u there).by_run h)) (none_counts (runs_at d) others empty i u there))

  outermost : at 0 v.depth v.runs ≡ 1
  outermost = ap (λ x. at 0 x v.runs) tally.depth ∙ tally.run

  -- no run is left but this one
  none_left : (d : ℕ) → total (runs_at d) others ≡ 0
  none_left zero = omega (arith, change (runs_at 0), kept.outermost, outermost)
  none_left (suc d) = omega (arith, no_opened d (none_left d), kept.inside d, change (runs_at (suc d)), change (back_at d), change (opened_at d), at_none d 0, ap (at d v.depth) tally.all_back)

  runs_none : (i : ℕ) (u : SpanView) → get_elem? others i ≡ some u → u.runs ≡ 0
  runs_none i u there = sym (at_same u.depth u.runs) ∙ none_counts (runs_at u.depth) others (none_left u.depth) i u there

  no_noted : total noted_of others ≡ 0
  no_noted = counts_none noted_of others (λ i u there. omega (arith, (backed i u there).by_run (runs_none i u there)))

  no_told : v.tellers ≡ all → total told_of others ≡ 0
  no_told is =
      let no_tellers : total tellers_of others ≡ 0 = omega (arith, change tellers_of, kept.all_tellers) in
      counts_none told_of others (λ i u there. (backed i u there).by_teller (none_counts tellers_of others no_tellers i u there))

  -- with all tellers, it noted what they told
  even : v.tellers ≡ all → v.told ≡ v.noted
  even is = omega (arith, no_told is, no_noted, kept.spans, change told_of, change noted_of)

pub is_settled : (all slots id i : ℕ) (me : Me (Unit {0}) SpanView) → IsTally me.0 → Allows (holds all) slots id me i (λ k. k) (λ k me'. (me' ≡ me) × IsSettled all me.0)
is_settled all slots id i me tally s kept len e small = (
  me.0,
  nothing_moves,
  tt,
  keeps all s.views (set s.views id me.0) (λ f. f me.0) (λ f. f me.0) kept
      record { tellers = refl; outermost = refl; spans = omega arith; inside = λ d. omega arith }
      (λ f. total_set f s.views id me.0 me.0 e)
      (backed_set s.views id me.0 kept.each (kept.each id me.0 e)),
  (refl, even all s.views id me.0 tally kept e),
)

-- the same by a number that is the count of tellers
pub is_settled_at : (all count slots id i : ℕ) (me : Me (Unit {0}) SpanView) → count ≡ all → IsTally me.0 → Allows (holds all) slots id me i (λ k. k) (λ k me'. (me' ≡ me) × IsSettled count me.0)
is_settled_at all count slots id i me same tally = subst (λ n. Allows (holds all) slots id me i (λ k. k) (λ k me'. (me' ≡ me) × IsSettled n me.0)) (sym same) (is_settled all slots id i me tally)
