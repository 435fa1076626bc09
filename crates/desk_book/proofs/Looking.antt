-- What is known of the numbers that were looked at, after one more.
use Rattle.std.proofs.Common.{◌≡◌, ◌⊎◌, inl, inr, ℕ, ◌+◌, ◌<◌, ◌≤◌, Bool, true, false, cond, List, [], ◌∷◌, ◌++◌, length, Option, Some, None, refl, sym, ap, ◌∙◌, subst, arith, get_or}
use Rattle.std.specs.Prelude.{◌↔◌, slice_get, nat_le, IsTrue}
use Rattle.std.proofs.lemmas.Bool.{cases_eq, false≢true}
use Rattle.std.proofs.lemmas.Option.{slice_get-get_or}
use Rattle.std.proofs.lemmas.Bool.Decides.{nat_tests}
use Rattle.desk_book.specs.declared.entry.Ask.{Ask}
use Rattle.desk_book.specs.declared.turn.Turn.{Turn}
use Rattle.desk_book.specs.Histories.{IsOver}
use Rattle.desk_book.specs.inside.Looks.{turn_at, lesser, IsLeast, IsLastOf, IsIdle, IsOfGraph, NoneBetween}
use Rattle.desk_book.proofs.Lists.{some_same, get_push_cases, get_at_end, get_kept}

-- one number more at the end of a range
pub none_more : (P : ℕ → Type 0) (low n : ℕ) → ((k : ℕ) → low ≤ k → k < n → P k → ⊥) → (P n → ⊥) → (k : ℕ) → low ≤ k → k < n + 1 → P k → ⊥
none_more P low n none not k above below is = by_case (cases_eq k n)
  where
    by_case : (k ≡ n) ⊎ ((k ≡ n) → ⊥) → ⊥
    by_case (inl e) = not (subst P e is)
    by_case (inr other) = none k above (omega (arith, below, other)) is

-- an ask of another graph
pub of_other : (asks : List Ask) (graph n : ℕ) (ask : Ask) → slice_get asks n ≡ Some ask → (ask.graph ≡ graph → ⊥) → IsOfGraph asks graph n → ⊥
of_other asks graph n ask at other of = other (ap (λ (a : Ask). a.graph) (some_same (sym at ∙ of.1)) ∙ of.2)

-- the ask that is read past the end
abbrev pub no_ask : Ask
no_ask = record { number = 0; caller = 0; graph = 0; times = 0 }

pub of_other_at : (asks : List Ask) (graph n : ℕ) → n < length asks → ((get_or asks n no_ask).graph ≡ graph → ⊥) → IsOfGraph asks graph n → ⊥
of_other_at asks graph n below other = of_other asks graph n (get_or asks n no_ask) (slice_get-get_or asks n no_ask below) other

pub of_graph_at : (asks : List Ask) (graph n : ℕ) → n < length asks → (get_or asks n no_ask).graph ≡ graph → IsOfGraph asks graph n
of_graph_at asks graph n below same = (get_or asks n no_ask, slice_get-get_or asks n no_ask below, same)

-- one number more at the front of a range
pub none_less : (asks : List Ask) (graph n high : ℕ) → NoneBetween asks graph (n + 1) high → (IsOfGraph asks graph n → ⊥) → NoneBetween asks graph n high
none_less asks graph n high none not k above below is = by_case (cases_eq k n)
  where
    by_case : (k ≡ n) ⊎ ((k ≡ n) → ⊥) → ⊥
    by_case (inl e) = not (subst (IsOfGraph asks graph) e is)
    by_case (inr other) = none k (omega (arith, above, other)) below is

lesser_cases : (k m : ℕ) (P : ℕ → Type 0) → (k ≤ m → P k) → (m ≤ k → P m) → P (cond (nat_le k m) k m)
lesser_cases k m P left right = by_test (nat_le k m) refl
  where
    by_test : (b : Bool) → nat_le k m ≡ b → P (cond b k m)
    by_test true is = left (grind (arith, nat_tests))
    by_test false is = right (grind (arith, nat_tests))

pub least_push : (numbers : List (Option ℕ)) (least number : Option ℕ) → IsLeast numbers least → IsLeast (numbers ++ number ∷ []) (lesser least number)
least_push numbers None None h = each
  where
    each : (g n : ℕ) → slice_get (numbers ++ None ∷ []) g ≡ Some (Some n) → ⊥
    each g n at = by_place (get_push_cases numbers None (Some n) g at)
      where
        by_place : (slice_get numbers g ≡ Some (Some n)) ⊎ ((g ≡ length numbers) × (None ≡ Some n)) → ⊥
        by_place (inl old) = h g n old
        by_place (inr last) = absurd (let e : None ≡ Some n = last.1 in cc)
least_push numbers None (Some m) h = ((length numbers, get_at_end numbers (Some m)), each)
  where
    each : (g n : ℕ) → slice_get (numbers ++ Some m ∷ []) g ≡ Some (Some n) → m ≤ n
    each g n at = by_place (get_push_cases numbers (Some m) (Some n) g at)
      where
        by_place : (slice_get numbers g ≡ Some (Some n)) ⊎ ((g ≡ length numbers) × (Some m ≡ Some n)) → m ≤ n
        by_place (inl old) = absurd (h g n old)
        by_place (inr last) = omega (arith, some_same last.1)
least_push numbers (Some k) None h = ((h.0.0, get_kept numbers None (Some k) h.0.0 h.0.1), each)
  where
    each : (g n : ℕ) → slice_get (numbers ++ None ∷ []) g ≡ Some (Some n) → k ≤ n
    each g n at = by_place (get_push_cases numbers None (Some n) g at)
      where
        by_place : (slice_get numbers g ≡ Some (Some n)) ⊎ ((g ≡ length numbers) × (None ≡ Some n)) → k ≤ n
        by_place (inl old) = h.1 g n old
        by_place (inr last) = absurd (let e : None ≡ Some n = last.1 in cc)
least_push numbers (Some k) (Some m) h = lesser_cases k m (λ l. IsLeast (numbers ++ Some m ∷ []) (Some l)) left right
  where
    left : k ≤ m → IsLeast (numbers ++ Some m ∷ []) (Some k)
    left less = ((h.0.0, get_kept numbers (Some m) (Some k) h.0.0 h.0.1), each)
      where
        each : (g n : ℕ) → slice_get (numbers ++ Some m ∷ []) g ≡ Some (Some n) → k ≤ n
        each g n at = by_place (get_push_cases numbers (Some m) (Some n) g at)
          where
            by_place : (slice_get numbers g ≡ Some (Some n)) ⊎ ((g ≡ length numbers) × (Some m ≡ Some n)) → k ≤ n
            by_place (inl old) = h.1 g n old
            by_place (inr last) = omega (arith, less, some_same last.1)

    right : m ≤ k → IsLeast (numbers ++ Some m ∷ []) (Some m)
    right less = ((length numbers, get_at_end numbers (Some m)), each)
      where
        each : (g n : ℕ) → slice_get (numbers ++ Some m ∷ []) g ≡ Some (Some n) → m ≤ n
        each g n at = by_place (get_push_cases numbers (Some m) (Some n) g at)
          where
            by_place : (slice_get numbers g ≡ Some (Some n)) ⊎ ((g ≡ length numbers) × (Some m ≡ Some n)) → m ≤ n
            by_place (inl old) = let above = h.1 g n old in omega (arith, less, above)
            by_place (inr last) = omega (arith, some_same last.1)

-- whether a graph is idle, by its last ask
pub idle_of : (asks : List Ask) (turns : List Turn) (graph n : ℕ) (over : Bool) → IsLastOf asks graph (Some n) → IsTrue over ↔ IsOver (turn_at turns n) → IsIdle asks turns graph over
idle_of asks turns graph n true last tells = (Some n, last, tells.0 refl)
idle_of asks turns graph n false last tells = (n, last.0, λ over. false≢true (tells.1 over))
