-- The first releases and the first words, as loops make them.
use Rattle.std.proofs.Common.{◌≡◌, ℕ, zero, suc, ◌+◌, ◌<◌, ◌≤◌, Bool, true, false, not, List, [], ◌∷◌, ◌++◌, length, take, All, IsTrue, ◌↔◌, sym, refl, ap, ◌∙◌, arith, get_or}
use mir.Val.{bool_byte}
use Rattle.std.specs.Prelude.{◌==◌, ◌&&◌}
use Rattle.journal_rules.proofs.NetLemmas.{places_below}
use Rattle.std.proofs.lemmas.List.{append_assoc, append-nil}
use Rattle.task_graph.specs.NetRows.{NetRows}
use Rattle.task_graph.specs.Net.{IsSource, in_edges, strong_in, is_weak_row}
use Rattle.task_graph.specs.declared.net.EdgeRow.{EdgeRow}
use Rattle.journal_rules.specs.Counts.{first_tokens}
use Rattle.journal_rules.specs.declared.entry.Cause.TheVariants.{Source, Strong}
use Rattle.join_tables.specs.declared.releases.FirstRelease.{FirstRelease}
use Rattle.table_steps.specs.declared.view.TurnDuty.{TurnDuty}
use Rattle.table_steps.specs.declared.view.TurnDuty.TheVariants.{Fresh}
use Rattle.table_steps.specs.inside.Duties.{nil}
use Rattle.table_steps.specs.Giving.{one_if}
use Rattle.table_steps.specs.inside.Opening.{count_without_token, is_empty, source_duties, full_duties, first_duties}
use Rattle.join_tables.specs.inside.FirstReleases.{task_duties, duties_before, duties_of, duty_if, is_full}

nil_one : (b : Bool) (n : ℕ) → n ≡ one_if b → nil n ≡ one_if (not b)
nil_one true n is = ap nil is
nil_one false n is = ap nil is

-- one edge more
pub bare_more : (net : NetRows) (es : List ℕ) (i : ℕ) (b : Bool) → i < length es → first_tokens net (get_or es i 0) ≡ one_if b → count_without_token net (take (i + 1) es) ≡ count_without_token net (take i es) + one_if (not b)
bare_more net [] i b below is = absurd (omega arith)
bare_more net (e ∷ es) zero b below is = omega (arith, nil_one b (first_tokens net e) is)
bare_more net (e ∷ es) (suc i) b below is = let z : suc i + 1 ≡ suc (i + 1) = omega arith in ap (λ k. count_without_token net (take k (e ∷ es))) z ∙ omega (arith, bare_more net es i b (omega arith) is)

source_if : (net : NetRows) (t : ℕ) (b : Bool) → IsTrue b ↔ IsSource net t → duty_if b t Source ≡ source_duties t (is_empty (in_edges net t))
source_if net t b is = by_edges b (in_edges net t) is
  where
    by_edges : (b : Bool) (es : List ℕ) → IsTrue b ↔ (es ≡ []) → duty_if b t Source ≡ source_duties t (is_empty es)
    by_edges true [] h = refl
    by_edges false [] h = absurd (let z : IsTrue false = h.1 refl in cc)
    by_edges true (e ∷ es) h = absurd (let z : e ∷ es ≡ [] = h.0 refl in cc)
    by_edges false (e ∷ es) h = refl

full_if : (t : ℕ) (es : List ℕ) (n : ℕ) → duty_if (is_full es n) t Strong ≡ full_duties t es n
full_if t [] n = refl
full_if t (e ∷ es) zero = refl
full_if t (e ∷ es) (suc n) = refl

-- the releases of one task more
pub duties_more : (net : NetRows) (t : ℕ) (b f : Bool) (made : List TurnDuty) → made ≡ duties_before net t → IsTrue b ↔ IsSource net t → f ≡ is_full (strong_in net t) (count_without_token net (strong_in net t))
    → (made ++ duty_if b t Source) ++ duty_if f t Strong ≡ duties_before net (t + 1)
duties_more net t b f made is source full =
    let next : suc t ≡ t + 1 = omega arith in
    append_assoc made (duty_if b t Source) (duty_if f t Strong)
    ∙ (λ i. is i ++ (source_if net t b source i ++ (ap (λ g. duty_if g t Strong) full ∙ full_if t (strong_in net t) (count_without_token net (strong_in net t))) i))
    ∙ ap (duties_before net) next

-- the tasks before one, and those after it
all_items : (net : NetRows) (t n : ℕ) → duties_before net t ++ first_duties net t n ≡ duties_before net (t + n)
all_items net t zero = let z : t ≡ t + 0 = omega arith in append-nil (duties_before net t) ∙ ap (duties_before net) z
all_items net t (suc n) = let z : suc t + n ≡ t + suc n = omega arith in
    ap (λ xs. duties_before net t ++ xs) (sym (join_three (source_duties t (is_empty (in_edges net t))) (full_duties t (strong_in net t) (count_without_token net (strong_in net t))) (first_duties net (suc t) n)))
    ∙ sym (append_assoc (duties_before net t) (task_duties net t) (first_duties net (suc t) n)) ∙ all_items net (suc t) n ∙ ap (duties_before net) z
  where
    join_three : (a b c : List TurnDuty) → (a ++ b) ++ c ≡ a ++ b ++ c
    join_three a b c = refl

pub duties_all : (net : NetRows) (n : ℕ) → duties_before net n ≡ first_duties net 0 n
duties_all net n = let z : 0 + n ≡ n = omega arith in sym (all_items net 0 n ∙ ap (duties_before net) z)

pub in_range : (net : NetRows) (t : ℕ) → All (λ e. e < length net.edges) (strong_in net t)
in_range net t = places_below (λ (row : EdgeRow). (row.to == t) && not (is_weak_row net row)) net.edges

pub bit : (b : Bool) → one_if (not b) ≤ 1
bit true = omega arith
bit false = omega arith

duties_append : (rs qs : List FirstRelease) → duties_of (rs ++ qs) ≡ duties_of rs ++ duties_of qs
duties_append [] qs = refl
duties_append (r ∷ rs) qs = ap (λ xs. Fresh r.task r.cause ∷ xs) (duties_append rs qs)

pub duties_push : (rs : List FirstRelease) (r : FirstRelease) → duties_of (rs ++ r ∷ []) ≡ duties_of rs ++ Fresh r.task r.cause ∷ []
duties_push rs r = duties_append rs (r ∷ [])

pub byte_one : (b : Bool) → bool_byte b ≡ one_if b
byte_one true = refl
byte_one false = refl
