-- The ends of each task's edges, one list behind the other.
use Rattle.std.proofs.Common.{◌≡◌, inl, inr, ℕ, ◌+◌, ◌-◌, ◌<◌, ◌≤◌, List, [], ◌∷◌, ◌++◌, length, get_or, take, drop, Some, refl, sym, ap, ◌∙◌, subst, append_assoc, length-append, arith}
use Rattle.std.proofs.Math.Seq.{drop-append_seam}
use Rattle.std.proofs.lemmas.List.{append-nil, get_or_append_left, get_or_push, length_push, length-drop, drop-append-le, take-append-le, take_all}
use Rattle.std.proofs.str.Laws.{order}
use Rattle.std.specs.List.{slice_range}
use Rattle.task_graph.specs.NetRows.{NetRows}
use Rattle.pitfall_check.specs.declared.way.Way.{Way}
use Rattle.pitfall_check.specs.declared.ends_by_task.EndsByTask.{EndsByTask}
use Rattle.pitfall_check.specs.inside.Steps.{edges_by, end_by}
use Rattle.pitfall_check.specs.inside.EndLists.{AreEndsOf, AddsEnds, AddsEndsOf, AreListed, AreListedBelow, IsListed, ends_of}
use Rattle.pitfall_check.proofs.PlaceLemmas.{each_push}

-- a part of a list that lies in its front, and the part behind the front
part_of_front : (xs ys : List ℕ) (a b : ℕ) → a ≤ b → b ≤ length xs → slice_range (xs ++ ys) a b ≡ slice_range xs a b
part_of_front xs ys a b rising within =
    ap (take (b - a)) (drop-append-le a xs ys (omega (arith, rising, within)))
    ∙ take-append-le (b - a) (drop a xs) ys (omega (arith, rising, within, length-drop a xs))

part_behind : (xs ys : List ℕ) → slice_range (xs ++ ys) (length xs) (length (xs ++ ys)) ≡ ys
part_behind xs ys =
    ap (take (length (xs ++ ys) - length xs)) (drop-append_seam xs ys)
    ∙ take_all (length (xs ++ ys) - length xs) ys (omega (arith, length-append xs ys))

-- no end was put there yet
pub AddsEnds-none : (way : Way) (net : NetRows) (edges old : List ℕ) → AddsEnds way net edges 0 old old
AddsEnds-none way net edges old = record {
  more = [];
  longer = sym (append-nil old);
  ends = record { within = omega arith; size = refl; named = λ k below. absurd (omega (arith, below)); in_range = λ k below. absurd (omega (arith, below)) };
}

-- one more was
pub AddsEnds-more : (way : Way) (net : NetRows) (edges : List ℕ) (n : ℕ) (old new : List ℕ) (end : ℕ) → AddsEnds way net edges n old new → n < length edges
    → end_by way net (get_or edges n 0) ≡ Some end → end < length net.tasks → AddsEnds way net edges (n + 1) old (new ++ end ∷ [])
AddsEnds-more way net edges n old new end adds inside named in_range = record {
  more = adds.more ++ end ∷ [];
  longer = ap (λ xs. xs ++ end ∷ []) adds.longer ∙ append_assoc old adds.more (end ∷ []);
  ends = record {
    within = omega (arith, inside);
    size = length_push adds.more end ∙ ap (λ m. m + 1) adds.ends.size;
    named = each_push (λ k t. end_by way net (get_or edges k 0) ≡ Some t) adds.more end n adds.ends.size adds.ends.named named;
    in_range = each_push (λ k t. t < length net.tasks) adds.more end n adds.ends.size adds.ends.in_range in_range;
  };
}

-- all of a task's edges were followed
pub AddsEnds-all : (way : Way) (net : NetRows) (t : ℕ) (edges : List ℕ) (n : ℕ) (old new : List ℕ) → edges ≡ edges_by way net t → length edges ≤ n
    → AddsEnds way net edges n old new → AddsEndsOf way net t old new
AddsEnds-all way net t edges n old new same all adds =
    let whole : n ≡ length edges = omega (arith, all, adds.ends.within) in
    subst (λ (es : List ℕ). AddsEnds way net es (length es) old new) same (subst (λ m. AddsEnds way net edges m old new) whole adds)

-- no task's ends are listed yet
pub AreListedBelow-none : (way : Way) (net : NetRows) (lists : EndsByTask) → lists.bounds.items ≡ 0 ∷ [] → lists.ends.items ≡ [] → AreListedBelow way net lists 0
AreListedBelow-none way net lists bounds ends = record {
  size = ap length bounds;
  last = ap (λ (bs : List ℕ). get_or bs 0 0) bounds ∙ sym (ap length ends);
  there = λ t below. absurd (omega (arith, below));
  ends = λ t below. absurd (omega (arith, below));
}

-- the ends of one task more are
module _ (way : Way) (net : NetRows) (old new : EndsByTask) (n : ℕ) (so_far : AreListedBelow way net old n) (adds : AddsEndsOf way net n old.ends.items new.ends.items)
    (bounds : new.bounds.items ≡ old.bounds.items ++ length new.ends.items ∷ []) where
  bound_kept : (t : ℕ) → t < n + 1 → get_or new.bounds.items t 0 ≡ get_or old.bounds.items t 0
  bound_kept t below = ap (λ (bs : List ℕ). get_or bs t 0) bounds ∙ get_or_append_left old.bounds.items (length new.ends.items ∷ []) 0 t (omega (arith, below, so_far.size))

  last_bound : get_or new.bounds.items (n + 1) 0 ≡ length new.ends.items
  last_bound = ap (λ (bs : List ℕ). get_or bs (n + 1) 0) bounds ∙ get_or_push old.bounds.items (length new.ends.items) 0 (n + 1) so_far.size

  longer_by : length new.ends.items ≡ length old.ends.items + length adds.more
  longer_by = ap length adds.longer ∙ length-append old.ends.items adds.more

  one_bound_more : length new.bounds.items ≡ (n + 1) + 1
  one_bound_more = omega (arith, ap length bounds, length-append old.bounds.items (length new.ends.items ∷ []), so_far.size)

  there_before : (t : ℕ) → t < n → IsListed new t
  there_before t below =
      let was = so_far.there t below in
      let from = bound_kept t (omega (arith, below)) in
      let to = bound_kept (t + 1) (omega (arith, below)) in
      record {
        bounded = omega (arith, below, one_bound_more);
        rising = omega (arith, from, to, was.rising);
        within = omega (arith, to, was.within, longer_by);
      }

  there_last : IsListed new n
  there_last =
      let from = bound_kept n (omega arith) in
      record {
        bounded = omega (arith, one_bound_more);
        rising = omega (arith, from, so_far.last, last_bound, longer_by);
        within = omega (arith, last_bound);
      }

  same_before : (t : ℕ) → t < n → ends_of new t ≡ ends_of old t
  same_before t below =
      let was = so_far.there t below in
      ap (λ a. slice_range new.ends.items a (get_or new.bounds.items (t + 1) 0)) (bound_kept t (omega (arith, below)))
      ∙ ap (λ b. slice_range new.ends.items (get_or old.bounds.items t 0) b) (bound_kept (t + 1) (omega (arith, below)))
      ∙ ap (λ (xs : List ℕ). slice_range xs (get_or old.bounds.items t 0) (get_or old.bounds.items (t + 1) 0)) adds.longer
      ∙ part_of_front old.ends.items adds.more (get_or old.bounds.items t 0) (get_or old.bounds.items (t + 1) 0) was.rising was.within

  same_last : ends_of new n ≡ adds.more
  same_last =
      ap (λ a. slice_range new.ends.items a (get_or new.bounds.items (n + 1) 0)) (bound_kept n (omega arith) ∙ so_far.last)
      ∙ ap (λ b. slice_range new.ends.items (length old.ends.items) b) last_bound
      ∙ ap (λ (xs : List ℕ). slice_range xs (length old.ends.items) (length xs)) adds.longer
      ∙ part_behind old.ends.items adds.more

  pub AreListedBelow-next : AreListedBelow way net new (n + 1)
  AreListedBelow-next = record {
    size = one_bound_more;
    last = last_bound;
    there = λ t below. elim (order t n) [
      | inl before ↦ there_before t before
      | inr after ↦ let same : n ≡ t = omega (arith, after, below) in subst (IsListed new) same there_last
    ];
    ends = λ t below. elim (order t n) [
      | inl before ↦ subst (AreEndsOf way net t) (sym (same_before t before)) (so_far.ends t before)
      | inr after ↦
          let same : n ≡ t = omega (arith, after, below) in
          subst (λ u. AreEndsOf way net u (ends_of new u)) same (subst (AreEndsOf way net n) (sym same_last) adds.ends)
    ];
  }

-- the list of a task has the ends of its edges
pub ends_listed : (way : Way) (net : NetRows) (lists : EndsByTask) (t : ℕ) (ends : List ℕ) → AreListed way net lists → t < length net.tasks → ends ≡ ends_of lists t → AreEndsOf way net t ends
ends_listed way net lists t ends are below same = subst (AreEndsOf way net t) (sym same) (are.ends t below)

-- the end of a task's edge, by its place
pub record EndAt (way : Way) (net : NetRows) (t : ℕ) (ends : List ℕ) (place : ℕ) : Type 0 where
  pub below : place < length (edges_by way net t)
  pub listed : place < length ends
  pub named : end_by way net (get_or (edges_by way net t) place 0) ≡ Some (get_or ends place 0)
  pub in_range : get_or ends place 0 < length net.tasks

pub end_of_edge : (way : Way) (net : NetRows) (t : ℕ) (ends : List ℕ) (place : ℕ) → AreEndsOf way net t ends → place < length (edges_by way net t) → EndAt way net t ends place
end_of_edge way net t ends place are below = record {
  below = below;
  listed = omega (arith, below, are.size);
  named = are.named place below;
  in_range = are.in_range place below;
}

pub end_at : (way : Way) (net : NetRows) (t : ℕ) (ends : List ℕ) (place : ℕ) → AreEndsOf way net t ends → place < length ends → EndAt way net t ends place
end_at way net t ends place are inside = end_of_edge way net t ends place are (omega (arith, inside, are.size))
