-- Where the seats have nothing left to do, the journal is complete; and one that has all the live turns has all that is
-- to do.
use Rattle.std.proofs.Common.{◌≡◌, ◌≢◌, ◌⊎◌, inl, inr, ℕ, zero, suc, min, ◌<◌, ◌≤◌, Bool, true, false, ◌&&◌, eqb, List, [], ◌∷◌, length, map, Option, Some, None, sym, refl, ap, ◌∙◌, arith}
use Rattle.std.specs.Prelude.{count_by, ◌==◌, is_some, fold}
use Rattle.std.specs.Option.{option_map_or}
use Rattle.std.specs.List.{AllByRecursion}
use Rattle.std.proofs.lemmas.Bool.Decides.{nat_tests}
use Rattle.std.proofs.lemmas.Bool.{cases_eq, false≢true}
use Rattle.journal_rules.specs.declared.entry.Entry.{Entry}
use Rattle.journal_rules.specs.Counts.{is_open, start_at, closes}
use Rattle.journal_rules.specs.Complete.{least}
use Rattle.table_steps.specs.inside.Duties.{DutyCoord, runs, token, source, weakly, awaits, unset, any, nil, sum_over, is_run}
use Rattle.table_steps.specs.Giving.{one_if, times}
use Rattle.table_steps.proofs.StartDuties.{one_self}

-- nothing is left to do
pub record AtRest (T : DutyCoord → ℕ) : Type 0 where
  pub no_run : (m t : ℕ) → T (runs m t) ≡ 0
  pub no_source : (t : ℕ) → T (source t) ≡ 0
  pub no_token : (e : ℕ) → T (token e) ≡ 0
  pub no_weak : (e : ℕ) → T (weakly e) ≡ 0
  pub no_await : (e : ℕ) → T (awaits e) ≡ 0
  pub no_release : (t : ℕ) → T (unset t) ≡ 0

pub closed_at : (journal : List Entry) (m : ℕ) → ((t : ℕ) → is_run journal m t ≡ false) → is_open journal m ≡ false
closed_at journal m none = by_start (start_at journal m) refl
  where
    by_test : (b : Bool) → (t : ℕ) → b && (t == t) ≡ false → b ≡ false
    by_test true t h = let hit : eqb t t ≡ true = grind (arith, nat_tests) in absurd (false≢true (sym h ∙ hit))
    by_test false t h = refl

    by_start : (o : Option ℕ) → start_at journal m ≡ o → is_open journal m ≡ false
    by_start None is = ap (λ s. is_some s && (count_by (closes m) journal == 0)) is
    by_start (Some t) is = by_test (is_open journal m) t (ap (λ s. is_open journal m && option_map_or (λ u. u == t) s false) (sym is) ∙ none t)

-- the least of numbers that are all at least m, one of which is m
pub fold_least : (f : ℕ → ℕ) (m a at : ℕ) (es : List ℕ) → m ≤ a → AllByRecursion (λ e. m ≤ f e) es → (a ≡ m) ⊎ ((f at ≡ m) × (1 ≤ times at es)) → fold min a (map f es) ≡ m
fold_least f m a at [] low each (inl is) = is
fold_least f m a at [] low each (inr there) = absurd (omega (arith, there.1))
fold_least f m a at (e ∷ es) low each found = fold_least f m (min a (f e)) at es (omega (arith, each.0)) each.1 (next found (cases_eq e at))
  where
    next : (a ≡ m) ⊎ ((f at ≡ m) × (1 ≤ times at (e ∷ es))) → (e ≡ at) ⊎ (e ≢ at) → (min a (f e) ≡ m) ⊎ ((f at ≡ m) × (1 ≤ times at es))
    next (inl is) same = inl (omega (arith, is, each.0))
    next (inr there) (inl same) = inl (omega (arith, there.0, ap f same, low))
    next (inr there) (inr other) = let miss : one_if (eqb e at) ≡ 0 = let h : eqb e at ≡ false = grind (arith, nat_tests) in ap one_if h in inr (there.0, omega (arith, there.1, miss))

pub least_is : (f : ℕ → ℕ) (m at : ℕ) (es : List ℕ) → AllByRecursion (λ e. m ≤ f e) es → f at ≡ m → 1 ≤ times at es → m ≡ least (map f es)
least_is f m at [] each is there = absurd (omega arith)
least_is f m at (e ∷ es) each is there = sym (fold_least f m (f e) at es each.0 each.1 (first (cases_eq e at)))
  where
    first : (e ≡ at) ⊎ (e ≢ at) → (f e ≡ m) ⊎ ((f at ≡ m) × (1 ≤ times at es))
    first (inl same) = inl (ap f same ∙ is)
    first (inr other) = let miss : one_if (eqb e at) ≡ 0 = let h : eqb e at ≡ false = grind (arith, nat_tests) in ap one_if h in inr (is, omega (arith, there, miss))

-- where not all bits of a list are set, one isn't
pub record Clear (f : ℕ → ℕ) (es : List ℕ) : Type 0 where
  pub at : ℕ
  pub clear : f at ≡ 0
  pub there : 1 ≤ times at es

pub sum_gap : (f : ℕ → ℕ) (es : List ℕ) → sum_over f es < length es → Clear f es
sum_gap f [] less = absurd (omega arith)
sum_gap f (e ∷ es) less = by_bit (f e) refl (λ h. sum_gap f es h)
  where
    by_bit : (k : ℕ) → f e ≡ k → (sum_over f es < length es → Clear f es) → Clear f (e ∷ es)
    by_bit zero is rest = record { at = e; clear = is; there = omega (arith, one_self e) }
    by_bit (suc k) is rest = let r = rest (omega (arith, is)) in record { at = r.at; clear = r.clear; there = omega (arith, r.there) }

pub nil_pos : (n : ℕ) → nil n ≡ 0 → 1 ≤ n
nil_pos zero h = absurd (omega arith)
nil_pos (suc n) h = omega arith

pub any_zero : (n : ℕ) → any n ≡ 0 → n ≡ 0
any_zero zero h = refl
any_zero (suc n) h = absurd (omega arith)
