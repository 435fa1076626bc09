-- A walk over a journal goes on past an entry; what an End gives, it gives once.
use Rattle.std.proofs.Common.{◌≡◌, ◌⊎◌, inl, inr, ℕ, ◌+◌, ◌<◌, ◌≤◌, ◌^◌, Bool, List, [], ◌∷◌, ◌++◌, length, take, sym, refl, ap, ◌∙◌, subst, arith, Some, None, Option}
use Rattle.std.specs.Prelude.{count_by, slice_get, ◌==◌, IsSomeAnd}
use Rattle.std.proofs.lemmas.List.{take_more}
use Rattle.std.proofs.lemmas.Option.{get_or_from_slice_get}
use Rattle.std.proofs.lemmas.List.Sums.{count_by-le-length}
use Rattle.task_graph.specs.NetRows.{NetRows}
use Rattle.task_graph.specs.Net.{out_edges}
use Rattle.task_graph.specs.declared.net.Shape.{Shape}
use Rattle.task_graph.specs.declared.net.Shape.TheVariants.{Plain, Choice, Many, Nested}
use Rattle.task_graph.specs.declared.net.TaskRow.{TaskRow}
use Rattle.task_graph.specs.declared.net.EdgeRow.{EdgeRow}
use Rattle.journal_rules.specs.declared.entry.Entry.{Entry}
use Rattle.journal_rules.specs.declared.entry.Entry.TheVariants.{End}
use Rattle.journal_rules.specs.declared.counts.Counts.{Counts}
use Rattle.journal_rules.specs.Counts.{start_at}
use Rattle.journal_rules.specs.ChoiceRule.{ChoiceRule, GivesFit, InnerFits}
use Rattle.journal_rules.specs.inside.Reached.{IsReached}
use Rattle.journal_rules.specs.inside.Counted.{IsCounted, IsPosition}
use Rattle.legal_run.specs.declared.walk.Walk.{Walk}
use Rattle.legal_run.specs.inside.Walks.{IsAt}
use Rattle.journal_rules.proofs.NetLemmas.{counted_once}
use Rattle.legal_run.proofs.Marking.{distinct_once}
use Rattle.journal_rules.proofs.CountLaws.{can_grow}

-- what an End gives, it gives once
pub gives_once : (net : NetRows) (h : List Entry) (p : ℕ) (gives : List ℕ) (inner : Bool) → ChoiceRule net h (End p gives inner) → (e : ℕ) → count_by (λ g. g == e) gives ≤ 1
gives_once net h p gives inner rule e = by_task (start_at h p) rule
  where
    all_or_none : (t : ℕ) → (gives ≡ out_edges net t) ⊎ (gives ≡ []) → count_by (λ g. g == e) gives ≤ 1
    all_or_none t (inl all) = rw all (counted_once (λ (row : EdgeRow). row.from == t) net.edges e)
    all_or_none t (inr none) = rw none (omega arith)

    by_shape : (t : ℕ) (shape : Shape) → GivesFit shape (out_edges net t) gives → count_by (λ g. g == e) gives ≤ 1
    by_shape t Plain fits = all_or_none t fits
    by_shape t Nested fits = all_or_none t fits
    by_shape t Choice fits = omega (arith, fits.0, count_by-le-length (λ g. g == e) gives)
    by_shape t Many fits = distinct_once gives fits.0 e

    by_row : (t : ℕ) (row : Option TaskRow) → IsSomeAnd row (λ (r : TaskRow). GivesFit r.shape (out_edges net t) gives × InnerFits r.shape inner) → count_by (λ g. g == e) gives ≤ 1
    by_row t None fits = absurd fits
    by_row t (Some row) fits = by_shape t row.shape fits.0

    by_task : (t : Option ℕ) → IsSomeAnd t (λ q. IsSomeAnd (slice_get net.tasks q) (λ (r : TaskRow). GivesFit r.shape (out_edges net q) gives × InnerFits r.shape inner)) → count_by (λ g. g == e) gives ≤ 1
    by_task None fits = absurd fits
    by_task (Some t) fits = by_row t (slice_get net.tasks t) fits

-- the position of a walk
pub walk_position : (net : NetRows) (limit : ℕ) (h : List Entry) (counts : Counts) → IsReached net limit h → IsCounted net h counts → length h < 2 ^ 61 → IsPosition net limit h counts
walk_position net limit h counts reached counted size = record { reached = reached; counted = counted; grow = can_grow net h counts counted size }

-- a walk that has gone past one entry more
pub walked : (net : NetRows) (limit place : ℕ) (entries : List Entry) (walk : Walk) → place < length entries → IsSomeAnd (slice_get entries place) (λ x. IsAt net limit (take place entries ++ x ∷ []) walk) → IsAt net limit (take (place + 1) entries) walk
walked net limit place entries walk below past = by_item (slice_get entries place) refl past
  where
    by_item : (o : Option Entry) → slice_get entries place ≡ o → IsSomeAnd o (λ x. IsAt net limit (take place entries ++ x ∷ []) walk) → IsAt net limit (take (place + 1) entries) walk
    by_item None none at = absurd at
    by_item (Some x) some at =
        subst (λ xs. IsAt net limit xs walk) (sym (take_more entries place x below ∙ ap (λ (y : Entry). take place entries ++ y ∷ []) (get_or_from_slice_get entries place x x some))) at
