-- The four kinds of step on tokens and join words leave the other accounts alone.
use Rattle.std.proofs.Common.{◌≡◌, ◌≢◌, ℕ, zero, suc, ◌+◌, Bool, true, false, List, [], ◌∷◌, ◌++◌, refl, ◌∙◌, arith}
use Rattle.task_graph.specs.NetRows.{NetRows}
use Rattle.task_graph.specs.Net.{is_weak, strong_in}
use Rattle.journal_rules.specs.declared.entry.Cause.{Cause}
use Rattle.journal_rules.specs.declared.entry.Cause.TheVariants.{Source, Strong, Weak}
use Rattle.journal_rules.specs.declared.entry.Entry.{Entry}
use Rattle.table_steps.specs.declared.view.TurnDuty.{TurnDuty}
use Rattle.table_steps.specs.declared.view.TurnDuty.TheVariants.{Told, Fresh, Collecting, Ticket, Open, Owes, Counting}
use Rattle.table_steps.specs.inside.Duties.{DutyCoord, place, runs, running, tickets, token, source, weakly, awaits, unset, duty_weight, duty_weigh, EdgePart, DutyPart, DutyMoves, Raised, after_give, after_count, after_take, TakesFrom}
use Rattle.table_steps.proofs.GiveDuties.{give_edges, give_duties}
use Rattle.table_steps.proofs.CountDuties.{Counts, count_edges, count_duties}
use Rattle.table_steps.proofs.ResetDuties.{cleared_at, SetAgain, reset_duties, token_taken, take_duties}
use Rattle.table_steps.specs.declared.view.SemaphoreRole.{SemaphoreRole}
use Rattle.table_steps.specs.declared.view.SeatMark.{SeatMark}
use Rattle.table_steps.specs.declared.view.SeatMark.TheVariants.{Live, New, Over, ToMark, Sticking}
use Rattle.table_steps.specs.inside.Accounts.{Coord, duty, sem, mark, turning, owing, weigh, Readings, Balanced, Moves, with_tokens}
use Rattle.table_steps.specs.inside.Kinds.{wrap, news}
use Rattle.table_steps.proofs.Still.{admission_still, halt_still, stuck_still}
use Rattle.table_steps.proofs.Marking.{units_alike, credits_alike}
use Rattle.table_steps.proofs.Totals.{weigh_append}

-- how many turns a step makes
abbrev pub by_give : Bool → ℕ
by_give true = 1
by_give false = 0

abbrev pub by_count : ℕ → ℕ
by_count (suc zero) = 1
by_count _ = 0

wrap_duty : (c : DutyCoord) (xs : List TurnDuty) → weigh (duty c) (wrap xs) ≡ duty_weigh c xs
wrap_duty c [] = refl
wrap_duty c (x ∷ xs) = omega (arith, wrap_duty c xs)

news_none : (c : DutyCoord) (n : ℕ) → weigh (duty c) (news n) ≡ 0
news_none c zero = refl
news_none c (suc n) = omega (arith, news_none c n)

sem_wrap : (k : SemaphoreRole) (s : ℕ) (xs : List TurnDuty) → weigh (sem k s) (wrap xs) ≡ 0
sem_wrap k s [] = refl
sem_wrap k s (x ∷ xs) = omega (arith, sem_wrap k s xs)

sem_news : (k : SemaphoreRole) (s n : ℕ) → weigh (sem k s) (news n) ≡ 0
sem_news k s zero = refl
sem_news k s (suc n) = omega (arith, sem_news k s n)

mark_wrap : (m : SeatMark) (xs : List TurnDuty) → weigh (mark m) (wrap xs) ≡ 0
mark_wrap m [] = refl
mark_wrap m (x ∷ xs) = omega (arith, mark_wrap m xs)

live_news : (n : ℕ) → weigh (mark Live) (news n) ≡ 0
live_news zero = refl
live_news (suc n) = omega (arith, live_news n)

over_news : (n : ℕ) → weigh (mark Over) (news n) ≡ 0
over_news zero = refl
over_news (suc n) = omega (arith, over_news n)

to_mark_news : (n : ℕ) → weigh (mark ToMark) (news n) ≡ 0
to_mark_news zero = refl
to_mark_news (suc n) = omega (arith, to_mark_news n)

new_news : (n : ℕ) → weigh (mark New) (news n) ≡ n
new_news zero = refl
new_news (suc n) = omega (arith, new_news n)

turning_news : (n : ℕ) → weigh turning (news n) ≡ 0
turning_news zero = refl
turning_news (suc n) = omega (arith, turning_news n)

owing_news : (n : ℕ) → weigh owing (news n) ≡ 0
owing_news zero = refl
owing_news (suc n) = omega (arith, owing_news n)

sticking_news : (n : ℕ) → weigh (mark Sticking) (news n) ≡ 0
sticking_news zero = refl
sticking_news (suc n) = omega (arith, sticking_news n)

-- items that are no entry, start or ticket
abbrev pub Idle : List TurnDuty → Type 0
Idle [] = Unit {0}
Idle (Told n x ∷ xs) = ⊥
Idle (Fresh t cause ∷ xs) = Idle xs
Idle (Collecting t cause taken left ∷ xs) = Idle xs
Idle (Ticket ∷ xs) = ⊥
Idle (Open n t ∷ xs) = ⊥
Idle (Owes gives ∷ xs) = Idle xs
Idle (Counting e ∷ xs) = Idle xs

-- coordinates of entries, starts and tickets
abbrev pub OfRuns : DutyCoord → Type 0
OfRuns (place m) = Unit {0}
OfRuns (runs m t) = Unit {0}
OfRuns running = Unit {0}
OfRuns tickets = Unit {0}
OfRuns _ = ⊥

duty_none : (c : DutyCoord) → OfRuns c → (x : TurnDuty) → Idle (x ∷ []) → duty_weight c x ≡ 0
duty_none (place m) o (Fresh t cause) h = refl
duty_none (place m) o (Collecting t cause taken left) h = refl
duty_none (place m) o (Owes gives) h = refl
duty_none (place m) o (Counting e) h = refl
duty_none (place m) o (Told n y) h = absurd h
duty_none (place m) o Ticket h = absurd h
duty_none (place m) o (Open n t) h = absurd h
duty_none (runs m u) o (Fresh t cause) h = refl
duty_none (runs m u) o (Collecting t cause taken left) h = refl
duty_none (runs m u) o (Owes gives) h = refl
duty_none (runs m u) o (Counting e) h = refl
duty_none (runs m u) o (Told n y) h = absurd h
duty_none (runs m u) o Ticket h = absurd h
duty_none (runs m u) o (Open n t) h = absurd h
duty_none running o (Fresh t cause) h = refl
duty_none running o (Collecting t cause taken left) h = refl
duty_none running o (Owes gives) h = refl
duty_none running o (Counting e) h = refl
duty_none running o (Told n y) h = absurd h
duty_none running o Ticket h = absurd h
duty_none running o (Open n t) h = absurd h
duty_none tickets o (Fresh t cause) h = refl
duty_none tickets o (Collecting t cause taken left) h = refl
duty_none tickets o (Owes gives) h = refl
duty_none tickets o (Counting e) h = refl
duty_none tickets o (Told n y) h = absurd h
duty_none tickets o Ticket h = absurd h
duty_none tickets o (Open n t) h = absurd h
duty_none (token q) o x h = absurd o
duty_none (source q) o x h = absurd o
duty_none (weakly q) o x h = absurd o
duty_none (awaits q) o x h = absurd o
duty_none (unset q) o x h = absurd o

idle_head : (x : TurnDuty) (xs : List TurnDuty) → Idle (x ∷ xs) → Idle (x ∷ []) × Idle xs
idle_head (Told n y) xs h = absurd h
idle_head (Fresh t cause) xs h = (tt, h)
idle_head (Collecting t cause taken left) xs h = (tt, h)
idle_head Ticket xs h = absurd h
idle_head (Open n t) xs h = absurd h
idle_head (Owes gives) xs h = (tt, h)
idle_head (Counting e) xs h = (tt, h)

idle_none : (c : DutyCoord) → OfRuns c → (xs : List TurnDuty) → Idle xs → duty_weigh c xs ≡ 0
idle_none c o [] h = refl
idle_none c o (x ∷ xs) h = let parts = idle_head x xs h in omega (arith, duty_none c o x parts.0, idle_none c o xs parts.1)

-- the accounts but those of edges and duties, after such a step
pub tokens_kept : (net : NetRows) (limit : ℕ) (w : Readings) (counted counted' : ℕ → ℕ) (journal : List Entry) (T T' : Coord → ℕ) (edge' join' : ℕ → ℕ) (xs ys : List TurnDuty) (n : ℕ) → Idle xs → Idle ys → (weigh turning (wrap ys) ≡ weigh turning (wrap xs) + n) × (weigh owing (wrap ys) ≡ weigh owing (wrap xs)) → Balanced net limit w counted journal T
    → Moves T (wrap xs) T' (wrap ys ++ news n) → (DutyMoves (λ c. T (duty c)) xs (λ c. T' (duty c)) ys → EdgePart net edge' journal (λ c. T' (duty c)) × DutyPart net edge' join' counted' journal (λ c. T' (duty c)))
    → Balanced net limit (with_tokens w edge' join') counted' journal T'
tokens_kept net limit w counted counted' journal T T' edge' join' xs ys n idle_old idle_new made b moved parts =
    let duties : DutyMoves (λ c. T (duty c)) xs (λ c. T' (duty c)) ys = λ c. omega (arith, moved (duty c), weigh_append (duty c) (wrap ys) (news n), wrap_duty c xs, wrap_duty c ys, news_none c n) in
    let same : (c : DutyCoord) → OfRuns c → T' (duty c) ≡ T (duty c) = λ c o. omega (arith, duties c, idle_none c o xs idle_old, idle_none c o ys idle_new) in
    let sems : (k : SemaphoreRole) (s : ℕ) → T' (sem k s) ≡ T (sem k s) = λ k s. omega (arith, moved (sem k s), weigh_append (sem k s) (wrap ys) (news n), sem_wrap k s xs, sem_wrap k s ys, sem_news k s n) in
    let both = parts duties in let j = b.by_journal in record {
      by_journal = record {
        clock = j.clock;
        legal = j.legal;
        places = λ m. same (place m) tt ∙ j.places m;
        opens = λ m t. same (runs m t) tt ∙ j.opens m t;
        size = omega (arith, j.size, same running tt);
        unclosed = j.unclosed;
      };
      by_edges = both.0;
      by_duties = both.1;
      by_admissions = admission_still limit w.admitted journal T T' (same tickets tt) (omega (arith, moved (mark Over), weigh_append (mark Over) (wrap ys) (news n), mark_wrap Over xs, mark_wrap Over ys, over_news n)) b.by_admissions;
      by_live = omega (arith, b.by_live, moved (mark Live), weigh_append (mark Live) (wrap ys) (news n), mark_wrap Live xs, mark_wrap Live ys, live_news n);
      by_turns = record {
        turns = omega (arith, b.by_turns.turns, made.0, moved (mark Live), weigh_append (mark Live) (wrap ys) (news n), mark_wrap Live xs, mark_wrap Live ys, live_news n, moved (mark New), weigh_append (mark New) (wrap ys) (news n), mark_wrap New xs, mark_wrap New ys, new_news n, moved turning, weigh_append turning (wrap ys) (news n), turning_news n);
        ended = omega (arith, b.by_turns.ended, made.1, moved owing, weigh_append owing (wrap ys) (news n), owing_news n);
      };
      by_units = units_alike net w.unit journal T T' sems b.by_units;
      by_credits = credits_alike net w.credit journal T T' sems b.by_credits;
      by_halt = halt_still w.halt journal T T' (omega (arith, moved (mark ToMark), weigh_append (mark ToMark) (wrap ys) (news n), mark_wrap ToMark xs, mark_wrap ToMark ys, to_mark_news n)) b.by_halt;
      by_stuck = stuck_still journal T T' (omega (arith, moved (mark Sticking), weigh_append (mark Sticking) (wrap ys) (news n), mark_wrap Sticking xs, mark_wrap Sticking ys, sticking_news n)) b.by_stuck;
    }

-- a token given
pub give_kept : (net : NetRows) (limit : ℕ) (w : Readings) (counted : ℕ → ℕ) (journal : List Entry) (T T' : Coord → ℕ) (edge' : ℕ → ℕ) (weak : Bool) (t found f : ℕ) (gives : List ℕ) → Balanced net limit w counted journal T → is_weak net f ≡ weak → w.edge f ≡ found → Raised w.edge f edge'
    → Moves T (wrap (Owes (f ∷ gives) ∷ [])) T' (wrap (after_give weak t found f gives) ++ news (by_give weak)) → Balanced net limit (with_tokens w edge' w.join) counted journal T'
give_kept net limit w counted journal T T' edge' weak t found f gives b is found_is raised moved =
    tokens_kept net limit w counted counted journal T T' edge' w.join (Owes (f ∷ gives) ∷ []) (after_give weak t found f gives) (by_give weak) tt (idle weak found) (made weak found) b moved
    (λ m. (give_edges net w.edge edge' journal _ _ weak t found f gives b.by_edges raised m, give_duties net w.edge edge' w.join counted journal _ _ weak t found f gives b.by_duties is found_is raised m))
  where
    idle : (q : Bool) (k : ℕ) → Idle (after_give q t k f gives)
    idle true k = tt
    idle false zero = tt
    idle false (suc k) = tt

    made : (q : Bool) (k : ℕ) → (weigh turning (wrap (after_give q t k f gives)) ≡ weigh turning (wrap (Owes (f ∷ gives) ∷ [])) + by_give q) × (weigh owing (wrap (after_give q t k f gives)) ≡ weigh owing (wrap (Owes (f ∷ gives) ∷ [])))
    made true k = (omega arith, omega arith)
    made false zero = (omega arith, omega arith)
    made false (suc k) = (omega arith, omega arith)

-- an edge counted
pub count_kept : (net : NetRows) (limit : ℕ) (w : Readings) (counted counted' : ℕ → ℕ) (journal : List Entry) (T T' : Coord → ℕ) (join' : ℕ → ℕ) (t found f : ℕ) → Balanced net limit w counted journal T → Counts net w.edge w.join join' counted counted' t f found
    → Moves T (wrap (Counting f ∷ [])) T' (wrap (after_count t found) ++ news (by_count found)) → Balanced net limit (with_tokens w w.edge join') counted' journal T'
count_kept net limit w counted counted' journal T T' join' t found f b c moved =
    tokens_kept net limit w counted counted' journal T T' w.edge join' (Counting f ∷ []) (after_count t found) (by_count found) tt (idle found) (made found) b moved
    (λ m. (count_edges net w.edge journal _ _ t f found b.by_edges m, count_duties net w.edge w.join join' counted counted' journal _ _ t f found b.by_duties c m))
  where
    idle : (k : ℕ) → Idle (after_count t k)
    idle zero = tt
    idle (suc zero) = tt
    idle (suc (suc k)) = tt

    made : (k : ℕ) → (weigh turning (wrap (after_count t k)) ≡ weigh turning (wrap (Counting f ∷ [])) + by_count k) × (weigh owing (wrap (after_count t k)) ≡ weigh owing (wrap (Counting f ∷ [])))
    made zero = (omega arith, omega arith)
    made (suc zero) = (omega arith, omega arith)
    made (suc (suc k)) = (omega arith, omega arith)

-- a join word set again
pub reset_kept : (net : NetRows) (limit : ℕ) (w : Readings) (counted : ℕ → ℕ) (journal : List Entry) (T T' : Coord → ℕ) (join' : ℕ → ℕ) (t : ℕ) → Balanced net limit w counted journal T → strong_in net t ≢ [] → SetAgain net w.join t join'
    → Moves T (wrap (Fresh t Strong ∷ [])) T' (wrap (Collecting t Strong [] (strong_in net t) ∷ []) ++ news 0) → Balanced net limit (with_tokens w w.edge join') (cleared_at net t counted) journal T'
reset_kept net limit w counted journal T T' join' t b some_in again moved =
    tokens_kept net limit w counted (cleared_at net t counted) journal T T' w.edge join' (Fresh t Strong ∷ []) (Collecting t Strong [] (strong_in net t) ∷ []) 0 tt tt (omega arith, refl) b moved
    (λ m. ((λ e. omega (arith, b.by_edges e, m (token e))), reset_duties net w.edge w.join join' counted journal _ _ t b.by_duties some_in again m))

-- a token taken
pub take_kept : (net : NetRows) (limit : ℕ) (w : Readings) (counted : ℕ → ℕ) (journal : List Entry) (T T' : Coord → ℕ) (edge' : ℕ → ℕ) (t : ℕ) (cause : Cause) (taken left : List ℕ) (found f : ℕ) → Balanced net limit w counted journal T → TakesFrom net cause f → w.edge f ≡ found → Raised edge' f w.edge
    → Moves T (wrap (Collecting t cause taken (f ∷ left) ∷ [])) T' (wrap (after_take t cause taken found f left) ++ news 0) → Balanced net limit (with_tokens w edge' w.join) counted journal T'
take_kept net limit w counted journal T T' edge' t cause taken left found f b takes found_is raised moved =
    tokens_kept net limit w counted counted journal T T' edge' w.join (Collecting t cause taken (f ∷ left) ∷ []) (after_take t cause taken found f left) 0 tt (idle cause found) (made cause found) b moved
    (λ m. ((λ e. omega (arith, b.by_edges e, raised e, token_taken _ _ t cause taken left found f e m)), take_duties net w.edge edge' w.join counted journal _ _ t cause taken left found f b.by_duties takes found_is raised m))
  where
    idle : (c : Cause) (k : ℕ) → Idle (after_take t c taken k f left)
    idle Source k = tt
    idle (Weak e) k = tt
    idle Strong zero = tt
    idle Strong (suc zero) = tt
    idle Strong (suc (suc k)) = tt

    made : (c : Cause) (k : ℕ) → (weigh turning (wrap (after_take t c taken k f left)) ≡ weigh turning (wrap (Collecting t c taken (f ∷ left) ∷ [])) + 0) × (weigh owing (wrap (after_take t c taken k f left)) ≡ weigh owing (wrap (Collecting t c taken (f ∷ left) ∷ [])))
    made Source k = (omega arith, omega arith)
    made (Weak e) k = (omega arith, omega arith)
    made Strong zero = (omega arith, omega arith)
    made Strong (suc zero) = (omega arith, omega arith)
    made Strong (suc (suc k)) = (omega arith, omega arith)
