-- The findings of a net while they are listed.
use Rattle.std.proofs.Common.{◌≡◌, inl, inr, ℕ, ◌+◌, ◌*◌, ◌^◌, ◌<◌, ◌≤◌, ◌↔◌, Bool, true, false, IsTrue, if◌then◌else◌, List, [], ◌∷◌, ◌++◌, length, get_or, refl, ap, subst, sym, arith}
use Rattle.std.specs.List.{Contains}
use Rattle.std.proofs.lemmas.List.Elements.{Contains-push, Contains-push_cases, Contains-append_left, Contains-get_or}
use Rattle.std.proofs.lemmas.List.Quantifiers.{all_pairs_push}
use Rattle.task_graph.specs.NetRows.{NetRows}
use Rattle.task_graph.specs.Net.{IsNet, weak_in}
use Rattle.std.proofs.str.Laws.{order}
use Rattle.pitfall_check.proofs.PlaceLemmas.{some_member}
use Rattle.pitfall_check.proofs.EdgeLemmas.{weak_leads, into_task, task_on_cycle}
use Rattle.pitfall_check.specs.declared.finding.Finding.{Finding}
use Rattle.pitfall_check.specs.declared.finding.Finding.TheVariants.{NoSource, Mixed, ManyConditions, StrongCycle, NeverReached}
use Rattle.pitfall_check.specs.Pitfalls.{IsPitfall}
use Rattle.pitfall_check.specs.Findings.{finding_kind, finding_task, finding_key, AreFindings}
use Rattle.pitfall_check.specs.inside.PartialFindings.{AreFindingsBelow}

-- two findings of one kind with one task are one
same_finding : (f g : Finding) → finding_kind f ≡ finding_kind g → finding_task f ≡ finding_task g → f ≡ g
same_finding NoSource NoSource kind task = refl
same_finding (Mixed t) (Mixed u) kind task = ap Mixed task
same_finding (ManyConditions t) (ManyConditions u) kind task = ap ManyConditions task
same_finding (StrongCycle t) (StrongCycle u) kind task = ap StrongCycle task
same_finding (NeverReached t) (NeverReached u) kind task = ap NeverReached task
same_finding f g kind task = absurd (omega (arith, kind))

-- two findings of one key are one, where both name tasks
same_key : (f g : Finding) → finding_task f < 2 ^ 32 → finding_task g < 2 ^ 32 → finding_key f ≡ finding_key g → f ≡ g
same_key f g few many same = same_finding f g (kinds (finding_kind f) (finding_kind g) (finding_task f) (finding_task g) few many same) (tasks (finding_kind f) (finding_kind g) (finding_task f) (finding_task g) few many same)
  where
    kinds : (k l t u : ℕ) → t < 2 ^ 32 → u < 2 ^ 32 → k * 2 ^ 32 + t ≡ l * 2 ^ 32 + u → k ≡ l
    kinds k l t u few many same = omega arith

    tasks : (k l t u : ℕ) → t < 2 ^ 32 → u < 2 ^ 32 → k * 2 ^ 32 + t ≡ l * 2 ^ 32 + u → t ≡ u
    tasks k l t u few many same = omega arith

-- the task that a pitfall names is a task of the net
pub named_task : (net : NetRows) (f : Finding) → IsNet net → IsPitfall net f → 1 ≤ finding_kind f → finding_task f < length net.tasks
named_task net NoSource is holds names = absurd (omega (arith, names))
named_task net (Mixed t) is holds names =
    let some = some_member (weak_in net t) holds.weak in into_task net some.0 t is (weak_leads net t some.0 some.1)
named_task net (ManyConditions t) is holds names = into_task net holds.first t is (weak_leads net t holds.first holds.first_in)
named_task net (StrongCycle t) is holds names = task_on_cycle net t is holds
named_task net (NeverReached t) is holds names = holds.in_range

task_in_range : (net : NetRows) (f : Finding) → IsNet net → IsPitfall net f → finding_task f < 2 ^ 32
task_in_range net NoSource is holds = omega arith
task_in_range net (Mixed t) is holds = omega (arith, is.task_count, named_task net (Mixed t) is holds (omega arith))
task_in_range net (ManyConditions t) is holds = omega (arith, is.task_count, named_task net (ManyConditions t) is holds (omega arith))
task_in_range net (StrongCycle t) is holds = omega (arith, is.task_count, named_task net (StrongCycle t) is holds (omega arith))
task_in_range net (NeverReached t) is holds = omega (arith, is.task_count, holds.in_range)

-- one finding more, of the next key
pub AreFindingsBelow-more : (net : NetRows) (old : List Finding) (f : Finding) (key : ℕ)
    → AreFindingsBelow net key old → IsNet net → key ≡ finding_key f → IsPitfall net f → AreFindingsBelow net (key + 1) (old ++ f ∷ [])
AreFindingsBelow-more net old f key so_far is at holds = record {
  ordered = all_pairs_push (λ f g. finding_key f < finding_key g) old f so_far.ordered (λ k d below. let low = ((so_far.exact (get_or old k d)).0 (Contains-get_or old k d below)).0 in omega (arith, low, at));
  exact = λ g. (there g, back g);
}
  where
    there : (g : Finding) → Contains (old ++ f ∷ []) g → (finding_key g < key + 1) × IsPitfall net g
    there g here = elim (Contains-push_cases old f g here) [
      | inl before ↦ let known = (so_far.exact g).0 before in (omega (arith, known.0), known.1)
      | inr same ↦ (let keys = ap finding_key same in omega (arith, keys, at), subst (IsPitfall net) same holds)
    ]

    back : (g : Finding) → (finding_key g < key + 1) × IsPitfall net g → Contains (old ++ f ∷ []) g
    back g (low, is_one) = elim (order (finding_key g) key) [
      | inl before ↦ Contains-append_left old (f ∷ []) g ((so_far.exact g).1 (before, is_one))
      | inr not_before ↦
          let keys : finding_key f ≡ finding_key g = omega (arith, low, not_before, at) in
          let same = same_key f g (task_in_range net f is holds) (task_in_range net g is is_one) keys in
          subst (Contains (old ++ f ∷ [])) same (Contains-push old f)
    ]

-- no finding of the next key
pub AreFindingsBelow-none : (net : NetRows) (old : List Finding) (f : Finding) (key : ℕ)
    → AreFindingsBelow net key old → IsNet net → key ≡ finding_key f → finding_task f < 2 ^ 32 → ¬ IsPitfall net f → AreFindingsBelow net (key + 1) old
AreFindingsBelow-none net old f key so_far is at few fails = record {
  ordered = so_far.ordered;
  exact = λ g. (λ here. let known = (so_far.exact g).0 here in (omega (arith, known.0), known.1), back g);
}
  where
    back : (g : Finding) → (finding_key g < key + 1) × IsPitfall net g → Contains old g
    back g (low, is_one) = elim (order (finding_key g) key) [
      | inl before ↦ (so_far.exact g).1 (before, is_one)
      | inr not_before ↦
          let keys : finding_key f ≡ finding_key g = omega (arith, low, not_before, at) in
          let same = same_key f g few (task_in_range net g is is_one) keys in
          absurd (fails (subst (IsPitfall net) (sym same) is_one))
    ]

-- a finding was looked at, and listed where it is one
pub AreFindingsBelow-step : (net : NetRows) (old : List Finding) (f : Finding) (holds : Bool) (key next : ℕ)
    → AreFindingsBelow net key old → IsNet net → key ≡ finding_key f → next ≡ finding_key f + 1 → finding_task f < 2 ^ 32 → (IsTrue holds ↔ IsPitfall net f)
    → AreFindingsBelow net next (if holds then old ++ f ∷ [] else old)
AreFindingsBelow-step net old f true key next so_far is at after few tells =
    let same : key + 1 ≡ next = omega (arith, at, after) in
    subst (λ n. AreFindingsBelow net n (old ++ f ∷ [])) same (AreFindingsBelow-more net old f key so_far is at (tells.0 refl))
AreFindingsBelow-step net old f false key next so_far is at after few tells =
    let same : key + 1 ≡ next = omega (arith, at, after) in
    subst (λ n. AreFindingsBelow net n old) same (AreFindingsBelow-none net old f key so_far is at few (λ holds. absurd (let wrong = tells.1 holds in cc)))

-- past the tasks of one kind come the findings of the next
pub AreFindingsBelow-next : (net : NetRows) (fs : List Finding) (kind count : ℕ)
    → AreFindingsBelow net (kind * 2 ^ 32 + count) fs → IsNet net → 1 ≤ kind → count ≡ length net.tasks → AreFindingsBelow net ((kind + 1) * 2 ^ 32) fs
AreFindingsBelow-next net fs kind count so_far is names counted = record {
  ordered = so_far.ordered;
  exact = λ g. (λ here. let known = (so_far.exact g).0 here in (omega (arith, known.0, is.task_count, counted), known.1), λ one. (so_far.exact g).1 (within (finding_kind g) (finding_task g) one.0 (task_in_range net g is one.1) (named_task net g is one.1), one.1));
}
  where
    within : (k t : ℕ) → k * 2 ^ 32 + t < (kind + 1) * 2 ^ 32 → t < 2 ^ 32 → (1 ≤ k → t < length net.tasks) → k * 2 ^ 32 + t < kind * 2 ^ 32 + count
    within k t low few named = elim (order k 1) [
      | inl first ↦ omega (arith, first, names, few)
      | inr later ↦ let below = named later in omega (arith, below, counted)
    ]

-- below the key past all kinds are all findings
pub AreFindings-below : (net : NetRows) (fs : List Finding) → IsNet net → AreFindingsBelow net (5 * 2 ^ 32) fs → AreFindings net fs
AreFindings-below net fs is below = record {
  ordered = below.ordered;
  exact = λ f. (λ here. ((below.exact f).0 here).1, λ one. (below.exact f).1 (all_below f (task_in_range net f is one), one));
}
  where
    all_below : (f : Finding) → finding_task f < 2 ^ 32 → finding_key f < 5 * 2 ^ 32
    all_below NoSource few = omega arith
    all_below (Mixed t) few = omega (arith, few)
    all_below (ManyConditions t) few = omega (arith, few)
    all_below (StrongCycle t) few = omega (arith, few)
    all_below (NeverReached t) few = omega (arith, few)

-- without findings none of key 0 is left out
pub AreFindingsBelow-nil : (net : NetRows) → AreFindingsBelow net 0 []
AreFindingsBelow-nil net = record {
  ordered = λ i j d before below. absurd (omega (arith, below));
  exact = λ f. (λ (k, below, same). absurd (omega (arith, below)), λ (low, one). absurd (omega (arith, low)));
}

-- the lack of a source is the one finding of its kind
pub AreFindingsBelow-first : (net : NetRows) (fs : List Finding) → IsNet net → AreFindingsBelow net 1 fs → AreFindingsBelow net (2 ^ 32) fs
AreFindingsBelow-first net fs is so_far = record {
  ordered = so_far.ordered;
  exact = λ g. (λ here. let known = (so_far.exact g).0 here in (omega (arith, known.0), known.1), λ one. (so_far.exact g).1 (alone g one.0, one.1));
}
  where
    alone : (g : Finding) → finding_key g < 2 ^ 32 → finding_key g < 1
    alone NoSource low = omega arith
    alone (Mixed t) low = omega (arith, low)
    alone (ManyConditions t) low = omega (arith, low)
    alone (StrongCycle t) low = omega (arith, low)
    alone (NeverReached t) low = omega (arith, low)
