-- What the words, the seats and the journal of a run have to do with each other.
use Rattle.std.specs.Prelude.{◌≡◌, ◌≢◌, ℕ, zero, suc, ◌+◌, ◌<◌, ◌≤◌, Bool, true, false, ◌&&◌, ◌==◌, List, [], ◌∷◌, ◌++◌, length}
use Rattle.std.specs.Option.{option_map_or}
use Rattle.task_graph.specs.NetRows.{NetRows}
use Rattle.task_graph.specs.Net.{IsSource, strong_in, is_weak}
use Rattle.journal_rules.specs.declared.entry.Cause.{Cause}
use Rattle.journal_rules.specs.declared.entry.Cause.TheVariants.{Source, Strong, Weak}
use Rattle.journal_rules.specs.declared.entry.Entry.{Entry}
use Rattle.journal_rules.specs.Counts.{given, used_source, is_open, start_at}
use Rattle.journal_rules.specs.Calm.{used_at}
use Rattle.table_steps.specs.Giving.{one_if, times}
use Rattle.table_steps.specs.declared.view.TurnDuty.{TurnDuty}
use Rattle.table_steps.specs.declared.view.TurnDuty.TheVariants.{Told, Fresh, Collecting, Ticket, Open, Owes, Counting}

-- What is counted over all seats.
pub data DutyCoord : Type 0 where
  -- entries with this number
  place : ℕ → DutyCoord
  -- Starts that run: at this place, of this task
  runs : ℕ → ℕ → DutyCoord
  -- Starts that run, and tickets to start
  running : DutyCoord
  tickets : DutyCoord
  -- tokens of this edge that are owed, or collected and not used
  token : ℕ → DutyCoord
  -- releases of this source task
  source : ℕ → DutyCoord
  -- releases of this weak edge whose token is not collected
  weakly : ℕ → DutyCoord
  -- duties to count this strong edge or to collect from it
  awaits : ℕ → DutyCoord
  -- releases of this task by its strong in-edges that are not set again
  unset : ℕ → DutyCoord

abbrev pub fresh_weight : DutyCoord → ℕ → Cause → ℕ
fresh_weight (source s) t Source = one_if (t == s)
fresh_weight (weakly e) t (Weak f) = one_if (f == e)
fresh_weight (unset s) t Strong = one_if (t == s)
fresh_weight _ _ _ = 0

abbrev pub held_weight : DutyCoord → ℕ → Cause → List ℕ → List ℕ → ℕ
held_weight (source s) t Source taken left = one_if (t == s)
held_weight (token e) t cause taken left = times e taken
held_weight (weakly e) t (Weak f) taken left = times e left
held_weight (awaits e) t Strong taken left = times e left
held_weight _ _ _ _ _ = 0

abbrev pub told_weight : DutyCoord → ℕ → ℕ
told_weight (place m) n = one_if (n == m)
told_weight _ n = 0

abbrev pub ticket_weight : DutyCoord → ℕ
ticket_weight tickets = 1
ticket_weight _ = 0

abbrev pub open_weight : DutyCoord → ℕ → ℕ → ℕ
open_weight (runs m s) n t = one_if ((n == m) && (t == s))
open_weight running n t = 1
open_weight _ n t = 0

abbrev pub owes_weight : DutyCoord → List ℕ → ℕ
owes_weight (token e) gives = times e gives
owes_weight _ gives = 0

abbrev pub counting_weight : DutyCoord → ℕ → ℕ
counting_weight (awaits e) f = one_if (f == e)
counting_weight _ f = 0

-- what one item counts
abbrev pub duty_weight : DutyCoord → TurnDuty → ℕ
duty_weight c (Told n x) = told_weight c n
duty_weight c (Fresh t cause) = fresh_weight c t cause
duty_weight c (Collecting t cause taken left) = held_weight c t cause taken left
duty_weight c Ticket = ticket_weight c
duty_weight c (Open n t) = open_weight c n t
duty_weight c (Owes gives) = owes_weight c gives
duty_weight c (Counting e) = counting_weight c e

-- what a seat's duties count
abbrev pub duty_weigh : DutyCoord → List TurnDuty → ℕ
duty_weigh c [] = 0
duty_weigh c (x ∷ xs) = duty_weight c x + duty_weigh c xs

-- 1 where there is some, and 1 where there is none
abbrev pub any : ℕ → ℕ
any zero = 0
any (suc n) = 1

abbrev pub nil : ℕ → ℕ
nil zero = 1
nil (suc n) = 0

abbrev pub sum_over : (ℕ → ℕ) → List ℕ → ℕ
sum_over f [] = 0
sum_over f (e ∷ es) = f e + sum_over f es

-- whether the Start at a place is one of this task, and runs
abbrev pub is_run : List Entry → ℕ → ℕ → Bool
is_run journal m t = is_open journal m && option_map_or (λ s. s == t) (start_at journal m) false

-- The account of edges.
abbrev pub EdgePart : NetRows → (ℕ → ℕ) → List Entry → (DutyCoord → ℕ) → Type 0
EdgePart net edge journal T = (e : ℕ) → given net e journal ≡ used_at net e journal + edge e + T (token e)

-- The account of duties. A strong edge with a token is counted, or one duty awaits it.
pub record DutyPart (net : NetRows) (edge join counted : ℕ → ℕ) (journal : List Entry) (T : DutyCoord → ℕ) : Type 0 where
  pub sources : (t : ℕ) → IsSource net t → t < length net.tasks → used_source t journal + T (source t) ≡ 1
  pub weaks : (e : ℕ) → is_weak net e ≡ true → edge e ≡ T (weakly e)
  pub bits : (e : ℕ) → counted e ≤ 1
  pub states : (e : ℕ) → is_weak net e ≡ false → counted e + T (awaits e) ≡ any (edge e)
  pub joins : (t : ℕ) → join t + sum_over counted (strong_in net t) ≡ length (strong_in net t)
  pub unsets : (t : ℕ) → strong_in net t ≢ [] → T (unset t) ≡ nil (join t)

-- one word, or one count, is higher by one
abbrev pub Raised : (ℕ → ℕ) → ℕ → (ℕ → ℕ) → Type 0
Raised f at g = (k : ℕ) → g k ≡ f k + one_if (at == k)

-- what is left after a token is given of an edge into task t, where this many were found
abbrev pub after_give : Bool → ℕ → ℕ → ℕ → List ℕ → List TurnDuty
after_give true t found f gives = Fresh t (Weak f) ∷ Owes gives ∷ []
after_give false t zero f gives = Counting f ∷ Owes gives ∷ []
after_give false t (suc n) f gives = Owes gives ∷ []

-- and after an edge is counted
abbrev pub after_count : ℕ → ℕ → List TurnDuty
after_count t zero = []
after_count t (suc zero) = Fresh t Strong ∷ []
after_count t (suc (suc n)) = []

-- and after a token is taken

abbrev pub after_take : ℕ → Cause → List ℕ → ℕ → ℕ → List ℕ → List TurnDuty
after_take t Strong taken (suc (suc n)) f left = Counting f ∷ Collecting t Strong (taken ++ f ∷ []) left ∷ []
after_take t cause taken found f left = Collecting t cause (taken ++ f ∷ []) left ∷ []

-- the next edge of a release is of its kind
abbrev pub TakesFrom : NetRows → Cause → ℕ → Type 0
TakesFrom net Source f = ⊥
TakesFrom net Strong f = is_weak net f ≡ false
TakesFrom net (Weak h) f = is_weak net f ≡ true

-- One seat exchanged these duties for those.
abbrev pub DutyMoves : (DutyCoord → ℕ) → List TurnDuty → (DutyCoord → ℕ) → List TurnDuty → Type 0
DutyMoves T old T' new = (c : DutyCoord) → T' c + duty_weigh c old ≡ T c + duty_weigh c new
