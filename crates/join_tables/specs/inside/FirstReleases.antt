-- The releases with which a run begins, and the words of its table.
use Rattle.std.specs.Prelude.{◌≡◌, ◌<◌, ◌≤◌, ◌-◌, ◌+◌, ◌==◌, ℕ, zero, suc, Bool, true, false, nat_lt, List, [], ◌∷◌, ◌++◌, length, slice_index, slice_get, Some, map, if◌then◌else◌}
use Rattle.task_graph.specs.NetRows.{NetRows}
use Rattle.task_graph.specs.Net.{IsNet, in_edges, strong_in}
use Rattle.journal_rules.specs.Counts.{first_tokens}
use Rattle.atomic_table.specs.Seated.{TableId}
use Rattle.journal_rules.specs.declared.entry.Cause.{Cause}
use Rattle.journal_rules.specs.declared.entry.Part.{Part}
use Rattle.join_tables.specs.declared.releases.FirstRelease.{FirstRelease}
use Rattle.join_tables.specs.States.{FreshState, fresh_state}
use Rattle.table_steps.specs.declared.view.SeatMark.TheVariants.{Live}
use Rattle.table_steps.specs.declared.view.Note.{Note}
use Rattle.table_steps.specs.declared.view.Note.TheVariants.{Duty, Has}
use Rattle.table_steps.specs.declared.view.TurnDuty.{TurnDuty}
use Rattle.table_steps.specs.declared.view.TurnDuty.TheVariants.{Fresh}
use Rattle.table_steps.specs.inside.Opening.{count_without_token, is_empty, source_duties, full_duties, first_queue}
use Rattle.journal_rules.specs.SemaphoreRule.{max_of}
use Rattle.table_steps.specs.inside.Accounts.{mark, busy, resting, weigh, marks_from, tokens_from}
use Rattle.table_steps.specs.Credits.{first_credit}

-- whether a task has strong in-edges, and all of them begin with a token
abbrev pub is_full : List ℕ → ℕ → Bool
is_full [] n = false
is_full (e ∷ es) zero = true
is_full (e ∷ es) (suc n) = false

-- the first releases of one task, and of the tasks before one
abbrev pub task_duties : NetRows → ℕ → List TurnDuty
task_duties net t = source_duties t (is_empty (in_edges net t)) ++ full_duties t (strong_in net t) (count_without_token net (strong_in net t))

abbrev pub duties_before : NetRows → ℕ → List TurnDuty
duties_before net zero = []
duties_before net (suc t) = duties_before net t ++ task_duties net t

-- releases as duties
abbrev pub duties_of : List FirstRelease → List TurnDuty
duties_of [] = []
duties_of (r ∷ rs) = Fresh r.task r.cause ∷ duties_of rs

abbrev pub duty_if : Bool → ℕ → Cause → List TurnDuty
duty_if true t cause = Fresh t cause ∷ []
duty_if false t cause = []

-- and as turns
abbrev pub states_of : TableId → List FirstRelease → List FreshState
states_of n rs = map (λ (r : FirstRelease). fresh_state n r.task r.cause) rs

-- what a word is at first, by its place
abbrev pub opening_word : NetRows → ℕ → ℕ → ℕ
opening_word net live k =
    if nat_lt k 40 then (if k == 16 then live else 0)
    else if nat_lt k (40 + length net.sems) then 0
    else if nat_lt k (marks_from net) then first_credit
    else if nat_lt k (tokens_from net) then 0
    else if nat_lt (k - tokens_from net) (length net.edges) then first_tokens net (k - tokens_from net)
    else count_without_token net (strong_in net (k - tokens_from net - length net.edges))

-- the words at first
pub record AreOpeningWords (net : NetRows) (live : ℕ) (words : List ℕ) : Type 0 where
  pub rows : IsNet net
  pub maxima : (s : ℕ) → max_of net s ≤ 4294967295
  pub size : length words ≡ tokens_from net + length net.edges + length net.tasks
  pub each : (k : ℕ) → k < length words → slice_index words k ≡ opening_word net live k

-- what lies in the slots at first
pub record AreFirstParcels (net : NetRows) (parcels : List (List Part)) : Type 0 where
  pub count : length parcels ≡ length net.edges
  pub each : (e : ℕ) → e < length parcels → slice_get parcels e ≡ Some (first_queue net e)

-- the keeper's seat has a release to deal out next
abbrev pub DealsFirst : ℕ → Cause → List Note → Type 0
DealsFirst u why (Duty (Fresh t cause) ∷ Has Live ∷ rest) = (t ≡ u) × (cause ≡ why) × (weigh resting rest ≡ 0) × (weigh (mark Live) rest ≡ 0 → weigh busy rest ≡ 0)
DealsFirst u why notes = ⊥
