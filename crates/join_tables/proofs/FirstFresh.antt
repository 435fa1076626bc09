-- The releases that a table deals out are the first of its net.
use Rattle.std.proofs.Common.{◌≡◌, ℕ, zero, suc, ◌+◌, ◌≤◌, Bool, true, false, not, List, [], ◌∷◌, ◌++◌, length, map, refl, sym, ap, ◌∙◌, arith}
use Rattle.std.specs.Prelude.{◌==◌, ◌||◌, slice_index}
use Rattle.std.proofs.lemmas.Bool.Decides.{nat_tests}
use Rattle.std.proofs.lemmas.List.{append_assoc}
use Rattle.std.specs.List.{list_any}
use Rattle.task_graph.specs.NetRows.{NetRows}
use Rattle.task_graph.specs.Net.{in_edges, strong_in}
use Rattle.atomic_table.specs.Seated.{TableId}
use Rattle.journal_rules.specs.Counts.{first_tokens}
use Rattle.journal_rules.specs.declared.entry.Cause.TheVariants.{Source, Strong}
use Rattle.join_tables.specs.declared.releases.FirstRelease.{FirstRelease}
use Rattle.table_steps.specs.declared.view.TurnDuty.{TurnDuty}
use Rattle.table_steps.specs.declared.view.TurnDuty.TheVariants.{Fresh}
use Rattle.join_tables.specs.States.{FreshState, fresh_state}
use Rattle.join_tables.specs.FirstCauses.{begin_full, cause_if, first_causes, first_fresh}
use Rattle.table_steps.specs.inside.Duties.{nil}
use Rattle.table_steps.specs.inside.Opening.{count_without_token, is_empty, source_duties, full_duties, first_duties}
use Rattle.join_tables.specs.inside.FirstReleases.{duties_of, states_of, AreOpeningWords, AreFirstParcels}
use Rattle.journal_rules.specs.declared.entry.Part.{Part}
use Rattle.join_tables.specs.Keeping.{TellsRun}
use Rattle.table_steps.specs.inside.Accounts.{mark, total, opening_notes, first_notes}
use Rattle.table_steps.specs.declared.view.SeatMark.TheVariants.{Live}
use Rattle.atomic_table.specs.Table.{opening}
use Rattle.join_tables.proofs.FirstStep.{begins_table, live_is}
use Rattle.table_steps.proofs.Closing.{all_complete}

-- the releases among items
abbrev fresh_of : TableId → List TurnDuty → List FreshState
fresh_of n [] = []
fresh_of n (Fresh t cause ∷ xs) = fresh_state n t cause ∷ fresh_of n xs
fresh_of n (x ∷ xs) = fresh_of n xs

fresh_states : (n : TableId) (rs : List FirstRelease) → fresh_of n (duties_of rs) ≡ states_of n rs
fresh_states n [] = refl
fresh_states n (r ∷ rs) = ap (λ fs. fresh_state n r.task r.cause ∷ fs) (fresh_states n rs)

abbrev some : ℕ → Bool
some zero = false
some (suc n) = true

not_zero : (k : ℕ) → (suc k == 0) ≡ false
not_zero k = grind (arith, nat_tests)

source_fresh : (n : TableId) (t : ℕ) (es : List ℕ) (rest : List TurnDuty)
    → fresh_of n (source_duties t (is_empty es) ++ rest) ≡ map (fresh_state n t) (cause_if (length es == 0) Source) ++ fresh_of n rest
source_fresh n t [] rest = refl
source_fresh n t (e ∷ es) rest = rw (not_zero (length es)) refl

-- some edge begins without a token, or none
any_bare : (net : NetRows) (es : List ℕ) → list_any (λ f. first_tokens net f == 0) es ≡ some (count_without_token net es)
any_bare net [] = refl
any_bare net (e ∷ es) = by_tokens (first_tokens net e) (any_bare net es)
  where
    by_tokens : (k : ℕ) → list_any (λ f. first_tokens net f == 0) es ≡ some (count_without_token net es) → ((k == 0) || list_any (λ f. first_tokens net f == 0) es) ≡ some (nil k + count_without_token net es)
    by_tokens zero h = let one : 1 + count_without_token net es ≡ suc (count_without_token net es) = omega arith in ap some (sym one)
    by_tokens (suc k) h = let none : 0 + count_without_token net es ≡ count_without_token net es = omega arith in rw (not_zero k) (h ∙ ap some (sym none))

full_fresh : (n : TableId) (net : NetRows) (t : ℕ) (es : List ℕ) (rest : List TurnDuty)
    → fresh_of n (full_duties t es (count_without_token net es) ++ rest) ≡ map (fresh_state n t) (cause_if (begin_full net es) Strong) ++ fresh_of n rest
full_fresh n net t [] rest = refl
full_fresh n net t (e ∷ es) rest = by_bare (count_without_token net (e ∷ es)) ∙ ap (λ b. map (fresh_state n t) (cause_if (not b) Strong) ++ fresh_of n rest) (sym (any_bare net (e ∷ es)))
  where
    by_bare : (k : ℕ) → fresh_of n (full_duties t (e ∷ es) k ++ rest) ≡ map (fresh_state n t) (cause_if (not (some k)) Strong) ++ fresh_of n rest
    by_bare zero = refl
    by_bare (suc k) = refl

map_two : (n : TableId) (t : ℕ) (net : NetRows) (rest : List FreshState)
    → map (fresh_state n t) (cause_if (length (in_edges net t) == 0) Source) ++ (map (fresh_state n t) (cause_if (begin_full net (strong_in net t)) Strong) ++ rest) ≡ map (fresh_state n t) (first_causes net t) ++ rest
map_two n t net rest = by_source (length (in_edges net t) == 0)
  where
    by_source : (b : Bool) → map (fresh_state n t) (cause_if b Source) ++ (map (fresh_state n t) (cause_if (begin_full net (strong_in net t)) Strong) ++ rest) ≡ map (fresh_state n t) (cause_if b Source ++ cause_if (begin_full net (strong_in net t)) Strong) ++ rest
    by_source true = refl
    by_source false = refl

fresh_firsts : (n : TableId) (net : NetRows) (t k : ℕ) → fresh_of n (first_duties net t k) ≡ first_fresh n net t k
fresh_firsts n net t zero = refl
fresh_firsts n net t (suc k) =
    let source = source_duties t (is_empty (in_edges net t)) in
    let strong = full_duties t (strong_in net t) (count_without_token net (strong_in net t)) in
    let here = map (fresh_state n t) (cause_if (length (in_edges net t) == 0) Source) in
    let there = map (fresh_state n t) (cause_if (begin_full net (strong_in net t)) Strong) in
    ap (fresh_of n) (append_assoc source strong (first_duties net (suc t) k))
    ∙ source_fresh n t (in_edges net t) (strong ++ first_duties net (suc t) k)
    ∙ ap (λ fs. here ++ fs) (full_fresh n net t (strong_in net t) (first_duties net (suc t) k) ∙ ap (λ fs. there ++ fs) (fresh_firsts n net (suc t) k))
    ∙ map_two n t net (first_fresh n net (suc t) k)

pub is_first_fresh : (n : TableId) (net : NetRows) (rs : List FirstRelease) (fs : List FreshState) → fs ≡ states_of n rs → duties_of rs ≡ first_duties net 0 (length net.tasks) → fs ≡ first_fresh n net 0 (length net.tasks)
is_first_fresh n net rs fs is first = is ∙ sym (fresh_states n rs) ∙ ap (fresh_of n) first ∙ fresh_firsts n net 0 (length net.tasks)

none_at_all : (n : TableId) (rs : List FirstRelease) → states_of n rs ≡ [] → rs ≡ []
none_at_all n [] is = refl
none_at_all n (r ∷ rs) is = absurd (cc)

none_live : (net : NetRows) (limit : ℕ) → first_duties net 0 (length net.tasks) ≡ [] → total (mark Live) (opening_notes net limit ∷ []) ≡ 0
none_live net limit none = ap (λ xs. total (mark Live) (first_notes xs ∷ [])) none

-- Where nothing is released at first, the run is finished.
pub nothing_runs : {S : Type 0} (part : S → List Part) (net : NetRows) (limit live : ℕ) (words : List ℕ) (parcels : List S) (rs : List FirstRelease) (n : TableId) (fs : List FreshState) → AreFirstParcels net (map part parcels) → limit ≤ 2097153
    → live ≡ length rs → duties_of rs ≡ first_duties net 0 (length net.tasks) → AreOpeningWords net live words → fs ≡ states_of n rs → fs ≡ [] → TellsRun net limit []
nothing_runs part net limit live words parcels rs n fs lie limited live_len first ws is none =
    let h = begins_table part net limit live words parcels lie limited (live_is net rs live live_len first) ws in
    let empty : rs ≡ [] = none_at_all n rs (sym is ∙ none) in
    let items : first_duties net 0 (length net.tasks) ≡ [] = sym first ∙ ap duties_of empty in
    let clock : slice_index words 8 ≡ 0 = ws.each 8 (omega (arith, ws.size)) in
    record {
      journal = h.journal;
      legal = h.balanced.by_journal.legal;
      meets = h.slots.parts.meets;
      complete = all_complete net limit (opening words parcels (opening_notes net limit)) h (none_live net limit items);
      merges = record { stand = tt; each = λ m below. absurd (omega (arith, below, h.balanced.by_journal.clock, clock)) };
    }
