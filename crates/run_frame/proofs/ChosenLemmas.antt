-- The edges that an answer signals fit the shape of its task.
use Rattle.std.proofs.Common.{◌≡◌, ◌∙◌, sym, ap, take, drop, slice_index, ◌+◌, ◌-◌, inl, inr, ℕ, zero, suc, ◌<◌, ◌≤◌, Bool, true, false, not, cond, eqb, List, [], ◌∷◌, length, get_or, Option, Some, None, ℤ, pos, negsuc, refl, arith}
use Rattle.std.specs.Prelude.{slice_get, IsTrue, IsSomeAnd, IfSome, All, filter, ◌==◌}
use Rattle.std.specs.List.{AllByRecursion, IsDistinct, list_any}
use Rattle.std.proofs.lemmas.Bool.Decides.{nat_tests}
use Rattle.std.proofs.lemmas.List.Elements.{recursion_from_All}
use Rattle.task_graph.specs.NetRows.{NetRows}
use Rattle.task_graph.specs.Net.{out_edges}
use Rattle.task_graph.specs.Chosen.{edge_at, first_of, chosen_edges, IsAnswerFor, AnswersSoMany as FitsCount}
use Rattle.task_graph.specs.declared.net.Shape.{Shape}
use Rattle.task_graph.specs.declared.net.Shape.TheVariants.{Plain, Choice, Many, Nested}
use Rattle.task_graph.specs.declared.net.TaskRow.{TaskRow}
use Rattle.task_graph.specs.declared.net.EdgeRow.{EdgeRow}
use Rattle.journal_rules.specs.ChoiceRule.{AreAmong, GivesFit, InnerFits}
use Rattle.journal_rules.proofs.Changing.{any_found}
use Rattle.journal_rules.proofs.NetLemmas.{at_place, places_below}
use Rattle.run_frame.specs.Meaning.{FitsShape, DoneFits, AnswerFits}
use Rattle.run_frame.specs.WorkRule.{gives_of}
use Rattle.run_frame.specs.declared.job.Answer.{Answer}
use Rattle.run_frame.specs.declared.job.Answer.TheVariants.{All as AllOf, None as NoneOf, Indices}
use Rattle.run_frame.specs.declared.job.Done.TheVariants.{Value}

filter_all : {X : Type 0} (P : X → Type 0) (p : X → Bool) (xs : List X) → AllByRecursion P xs → AllByRecursion P (filter p xs)
filter_all P p [] all = tt
filter_all {X} P p (x ∷ xs) all = by_test (p x) (filter_all P p xs all.1)
  where
    by_test : (b : Bool) → AllByRecursion P (filter p xs) → AllByRecursion P (cond b (x ∷ filter p xs) (filter p xs))
    by_test true rest = (all.0, rest)
    by_test false rest = rest

filter_distinct : (p : ℕ → Bool) (xs : List ℕ) → IsDistinct ◌==◌ xs → IsDistinct ◌==◌ (filter p xs)
unfolding IsDistinct
filter_distinct p [] distinct = distinct
filter_distinct p (x ∷ xs) distinct = by_test (p x) (filter_distinct p xs distinct.1)
  where
    by_test : (b : Bool) → IsDistinct ◌==◌ (filter p xs) → IsDistinct ◌==◌ (cond b (x ∷ filter p xs) (filter p xs))
    by_test true rest = (filter_all (λ y. x == y ≡ false) p xs distinct.0, rest)
    by_test false rest = rest

filter_others : (e : ℕ) (xs : List ℕ) → AllByRecursion (λ y. e == y ≡ false) (filter (λ f. not (f == e)) xs)
filter_others e [] = tt
filter_others e (x ∷ xs) = by_test (eqb x e) refl (filter_others e xs)
  where
    by_test : (b : Bool) → eqb x e ≡ b → AllByRecursion (λ y. e == y ≡ false) (filter (λ f. not (f == e)) xs) → AllByRecursion (λ y. e == y ≡ false) (cond (not b) (x ∷ filter (λ f. not (f == e)) xs) (filter (λ f. not (f == e)) xs))
    by_test true is rest = rest
    by_test false is rest = (grind (arith, nat_tests), rest)

-- what holds of all edges holds of those chosen
chosen_all : (P : ℕ → Type 0) (out : List ℕ) (answer : List ℤ) → All P out → AllByRecursion P (chosen_edges out answer)
chosen_all P out [] all = tt
chosen_all P out (i ∷ is) all = by_edge (edge_at out i) refl (chosen_all P out is all)
  where
    stands : (j : ℤ) (e : ℕ) → edge_at out j ≡ Some e → P e
    stands (pos k) e at = at_place P out k e all at
    stands (negsuc k) e at = absurd (cc)

    by_edge : (edge : Option ℕ) → edge_at out i ≡ edge → AllByRecursion P (chosen_edges out is) → AllByRecursion P (first_of edge (chosen_edges out is))
    by_edge None at rest = rest
    by_edge (Some e) at rest = (stands i e at, filter_all P (λ f. not (f == e)) (chosen_edges out is) rest)

chosen_distinct : (out : List ℕ) (answer : List ℤ) → IsDistinct ◌==◌ (chosen_edges out answer)
unfolding IsDistinct
chosen_distinct out [] = tt
chosen_distinct out (i ∷ is) = by_edge (edge_at out i) (chosen_distinct out is)
  where
    by_edge : (edge : Option ℕ) → IsDistinct ◌==◌ (chosen_edges out is) → IsDistinct ◌==◌ (first_of edge (chosen_edges out is))
    by_edge None rest = rest
    by_edge (Some e) rest = (filter_others e (chosen_edges out is), filter_distinct (λ f. not (f == e)) (chosen_edges out is) rest)

chosen_one : (out : List ℕ) (answer : List ℤ) → length answer ≡ 1 → length (chosen_edges out answer) ≤ 1
chosen_one out [] one = absurd (omega arith)
chosen_one out (i ∷ []) one = by_edge (edge_at out i)
  where
    by_edge : (edge : Option ℕ) → length (first_of edge []) ≤ 1
    by_edge None = omega arith
    by_edge (Some e) = omega arith
chosen_one out (i ∷ j ∷ is) one = absurd (omega arith)

any_default : (xs : List ℕ) (i d : ℕ) → i < length xs → get_or xs i 0 ≡ get_or xs i d
any_default [] i d below = absurd (omega arith)
any_default (x ∷ xs) zero d below = refl
any_default (x ∷ xs) (suc i) d below = any_default xs i d (omega arith)

-- the chosen edges are among them
chosen_among : (out : List ℕ) (answer : List ℤ) → AreAmong out (chosen_edges out answer)
chosen_among out answer = chosen_all (λ g. IsTrue (list_any (λ e. e == g) out)) out answer (λ k d below. any_found out k (get_or out k d) below (any_default out k d below))

none_distinct : IsDistinct {K = ℕ} ◌==◌ []
unfolding IsDistinct
none_distinct = tt

-- an answer that fits the shape signals edges that do
pub gives_fit : (shape : Shape) (out : List ℕ) (answer : Answer) → FitsShape shape answer → GivesFit shape out (gives_of out answer) × InnerFits shape false
gives_fit Plain out AllOf fits = (inl refl, refl)
gives_fit Plain out NoneOf fits = (inr refl, refl)
gives_fit Plain out (Indices is) fits = absurd fits
gives_fit Choice out AllOf fits = absurd fits
gives_fit Choice out NoneOf fits = ((omega arith, tt), refl)
gives_fit Choice out (Indices is) fits = ((chosen_one out is fits, chosen_among out is), refl)
gives_fit Many out AllOf fits = absurd fits
gives_fit Many out NoneOf fits = ((none_distinct, tt), refl)
gives_fit Many out (Indices is) fits = ((chosen_distinct out is, chosen_among out is), refl)
gives_fit Nested out AllOf fits = (inl refl, tt)
gives_fit Nested out NoneOf fits = (inr refl, tt)
gives_fit Nested out (Indices is) fits = absurd fits

-- and they are edges of the net
pub gives_in_range : (net : NetRows) (t : ℕ) (answer : Answer) → AllByRecursion (λ e. e < length net.edges) (gives_of (out_edges net t) answer)
gives_in_range net t AllOf = recursion_from_All (λ e. e < length net.edges) (out_edges net t) (places_below (λ (row : EdgeRow). row.from == t) net.edges)
gives_in_range net t NoneOf = tt
gives_in_range net t (Indices is) = chosen_all (λ e. e < length net.edges) (out_edges net t) is (places_below (λ (row : EdgeRow). row.from == t) net.edges)

past_tasks : {X : Type 0} (xs : List X) (i : ℕ) → i < length xs → slice_get xs i ≡ None → ⊥
past_tasks [] i below none = omega arith
past_tasks (x ∷ xs) zero below none = cc
past_tasks (x ∷ xs) (suc i) below none = past_tasks xs i (omega arith) none

-- so do those of an answer that fits its task
pub choice_fits : (J : Type 0) {V : Type 0} (net : NetRows) (t : ℕ) (v : V) (answer : Answer) → t < length net.tasks → AnswerFits {J = J} net t (Value v answer)
    → IsSomeAnd (slice_get net.tasks t) (λ (row : TaskRow). GivesFit row.shape (out_edges net t) (gives_of (out_edges net t) answer) × InnerFits row.shape false)
choice_fits J {V} net t v answer below fits = by_row (slice_get net.tasks t) refl fits
  where
    by_row : (row : Option TaskRow) → slice_get net.tasks t ≡ row → IfSome row (λ (r : TaskRow). DoneFits {J = J} r.shape (Value v answer))
        → IsSomeAnd row (λ (r : TaskRow). GivesFit r.shape (out_edges net t) (gives_of (out_edges net t) answer) × InnerFits r.shape false)
    by_row None is f = absurd (past_tasks net.tasks t below is)
    by_row (Some row) is f = gives_fit row.shape (out_edges net t) answer f

-- a task whose answer has indices may choose by so many
pub answer_for : (J : Type 0) {V : Type 0} (net : NetRows) (t : ℕ) (v : V) (indices : List ℤ) → t < length net.tasks → AnswerFits {J = J} net t (Value v (Indices indices)) → IsAnswerFor net t (length indices)
answer_for J {V} net t v indices below fits = by_row (slice_get net.tasks t) refl fits
  where
    by_shape : (shape : Shape) → FitsShape shape (Indices indices) → FitsCount shape (length indices)
    by_shape Plain f = absurd f
    by_shape Choice f = f
    by_shape Many f = tt
    by_shape Nested f = absurd f

    by_row : (row : Option TaskRow) → slice_get net.tasks t ≡ row → IfSome row (λ (r : TaskRow). DoneFits {J = J} r.shape (Value v (Indices indices))) → IsSomeAnd row (λ (r : TaskRow). FitsCount r.shape (length indices))
    by_row None is f = absurd (past_tasks net.tasks t below is)
    by_row (Some row) is f = by_shape row.shape f

one_of : (out : List ℕ) (p : ℕ) → p < length out → take 1 (drop p out) ≡ slice_index out p ∷ []
one_of [] p below = absurd (omega (arith, below))
one_of (x ∷ xs) zero below = refl
one_of (x ∷ xs) (suc p) below = one_of xs p (omega (arith, below))

-- one index chooses the edge at its place alone
pub one_chosen : (out : List ℕ) (index : ℤ) (p : ℕ) → p < length out → edge_at out index ≡ Some (slice_index out p) → take (p + 1 - p) (drop p out) ≡ chosen_edges out (index ∷ [])
one_chosen out index p below is =
    let one : p + 1 - p ≡ 1 = omega arith in
    ap (λ n. take n (drop p out)) one ∙ one_of out p below ∙ ap (λ e. first_of e []) (sym is)

-- and one that names none chooses none
pub none_chosen : (out : List ℕ) (index : ℤ) → edge_at out index ≡ None → [] ≡ chosen_edges out (index ∷ [])
none_chosen out index none = ap (λ e. first_of e []) (sym none)
