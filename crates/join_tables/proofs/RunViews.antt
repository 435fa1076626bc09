-- What the seat of a start knows at first.
use Rattle.std.proofs.Common.{◌≡◌, ℕ, Bool, true, false, not, ◌&&◌, List, [], ◌++◌, length, Option, Some, None, sym, refl, ap, ◌∙◌, subst}
use Rattle.std.proofs.lemmas.Bool.{false≢true}
use Rattle.task_graph.specs.NetRows.{NetRows}
use Rattle.task_graph.specs.Net.{IsNet}
use Rattle.journal_rules.specs.declared.entry.Cause.{Cause}
use Rattle.journal_rules.specs.SemaphoreRule.{takes, puts}
use Rattle.table_steps.specs.Giving.{one_if, times}
use Rattle.table_steps.specs.Holding.{HoldsEachUnit, PutsAll}
use Rattle.table_steps.specs.declared.view.Note.{Note}
use Rattle.std.proofs.lemmas.List.{append-nil}
use Rattle.journal_rules.specs.declared.entry.Part.{Part}
use Rattle.table_steps.specs.inside.Accounts.{resting}
use Rattle.table_steps.specs.inside.Slots.{found_lots, FindsFirst, first_parts, after_lots}
use Rattle.table_steps.specs.inside.Kinds.{started_notes, MayDrawStart, with_start_drawn}
use Rattle.table_steps.proofs.SlotViews.{found_weigh, finds_found, found_parts, found_after}
use Rattle.table_steps.proofs.Sharing.{puts_back, takes_alone, puts_alone, puts_all, credits_none, claims_none}
use Rattle.join_tables.specs.Claims.{BeginsUnits, HasAllUnits}
use Rattle.join_tables.specs.inside.Seated.{ticket_view, taken_in, held_of, UnitShares, running_view, shares_of, units_in, first_shares}

-- what a view of a start says
pub record RunReads (t : ℕ) (cause : Cause) (place : ℕ) (ins : List Part) (s : UnitShares) (v : List Note) : Type 0 where
  pub is : v ≡ running_view t cause place ins (shares_of v)
  pub shares : shares_of v ≡ s

run_reads : (t : ℕ) (cause : Cause) (place : ℕ) (ins : List Part) (s : UnitShares) → RunReads t cause place ins s (running_view t cause place ins s)
run_reads t cause place ins s = by_refusal s.refused refl
  where
    with_refusal : Option ℕ → UnitShares
    with_refusal r = record { both = s.both; credit = s.credit; credited = s.credited; claim = s.claim; granted = s.granted; refused = r }

    by_refusal : (r : Option ℕ) → s.refused ≡ r → RunReads t cause place ins s (running_view t cause place ins s)
    by_refusal None is = subst (λ q. RunReads t cause place ins (with_refusal q) (running_view t cause place ins (with_refusal q))) (sym is) (record { is = refl; shares = refl })
    by_refusal (Some a) is = subst (λ q. RunReads t cause place ins (with_refusal q) (running_view t cause place ins (with_refusal q))) (sym is) (record { is = refl; shares = refl })

-- A START
start_view : (net : NetRows) (t : ℕ) (cause : Cause) (taken : List ℕ) (parts : List Part) (held : List ℕ) (n : ℕ) → length parts ≡ length taken → with_start_drawn net n (ticket_view t cause taken parts held) ≡ running_view t cause n parts (first_shares net t held)
start_view net t cause taken parts held n same =
    let lots : found_lots taken parts ≡ found_lots taken parts ++ [] = sym (append-nil (found_lots taken parts)) in
    ap (λ l. started_notes net n t cause held (first_parts taken l) ++ after_lots taken l) lots
    ∙ (λ i. started_notes net n t cause held (found_parts taken parts [] same i) ++ found_after taken parts [] same i)

pub start_reads : (net : NetRows) (t : ℕ) (cause : Cause) (parts : List Part) (n : ℕ) (v u : List Note) → v ≡ ticket_view t cause (taken_in v) parts (held_of v) → length parts ≡ length (taken_in v) → u ≡ with_start_drawn net n v → RunReads t cause n parts (first_shares net t (held_of v)) u
start_reads net t cause parts n v u is same new =
    subst (λ w. RunReads t cause n parts (first_shares net t (held_of v)) w) (sym (new ∙ ap (with_start_drawn net n) is ∙ start_view net t cause (taken_in v) parts (held_of v) n same)) (run_reads t cause n parts (first_shares net t (held_of v)))

-- a ticket asks for the units that its task takes, and has found a part at each edge
pub may_start : (net : NetRows) (t : ℕ) (cause : Cause) (parts : List Part) (v : List Note) → v ≡ ticket_view t cause (taken_in v) parts (held_of v) → length parts ≡ length (taken_in v) → HoldsEachUnit net t (held_of v) → MayDrawStart net v
may_start net t cause parts v is same holds = let taken = taken_in v in
    subst (λ w. MayDrawStart net w) (sym is) (holds, subst (λ l. FindsFirst taken l) (append-nil (found_lots taken parts)) (finds_found taken parts [] same), found_weigh resting taken parts)

pub begins_units : (net : NetRows) (t : ℕ) (held : List ℕ) → IsNet net → HoldsEachUnit net t held → BeginsUnits net t (units_in (first_shares net t held))
begins_units net t held rows holds = record {
  back = puts_back net t held holds;
  to_credit = takes_alone net t held holds;
  credited = refl;
  to_claim = puts_alone net t rows;
  refused = refl;
}

pub has_all_units : (net : NetRows) (t : ℕ) (held : List ℕ) → HoldsEachUnit net t held → PutsAll net t → HasAllUnits net t held (units_in (first_shares net t held))
has_all_units net t held holds same = record {
  back = puts_all net t held holds same;
  credited = record { none_left = credits_none net t held holds same; all = λ s. none (takes net s t) (puts net s t) (same s) };
  claimed = record { none_left = claims_none net t same; not_refused = refl; all = λ s. ap (times s) (puts_all net t held holds same) ∙ holds s ∙ ap one_if (sym (same s)) };
}
  where
    none : (p q : Bool) → q ≡ p → 0 ≡ one_if (p && not q)
    none true true is = refl
    none true false is = absurd (false≢true is)
    none false q is = refl
