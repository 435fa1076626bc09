-- There are few live turns.
use Rattle.std.proofs.Common.{◌≡◌, ◌≢◌, ℕ, zero, suc, ◌+◌, ◌*◌, ◌<◌, ◌≤◌, Bool, true, false, cond, List, [], ◌∷◌, length, refl, ap, arith}
use Rattle.std.specs.Prelude.{count_by}
use mathlib.Core.Option.{some}
use lib.ListN.{get_elem?}
use Rattle.task_graph.specs.NetRows.{NetRows}
use Rattle.task_graph.specs.Net.{IsSource, is_weak, in_edges, strong_in}
use Rattle.journal_rules.specs.declared.entry.Cause.TheVariants.{Source, Strong, Weak}
use Rattle.journal_rules.specs.declared.entry.Entry.{Entry}
use Rattle.journal_rules.specs.declared.entry.Entry.TheVariants.{Start, End, Fault, Drop}
use Rattle.journal_rules.specs.Counts.{is_start, starts}
use Rattle.journal_rules.specs.declared.entry.Part.{Part}
use Rattle.table_steps.specs.declared.view.TurnDuty.TheVariants.{Told, Fresh, Collecting, Ticket, Open, Owes, Counting}
use Rattle.table_steps.specs.inside.Duties.{running, token, source, weakly, awaits, unset, nil}
use Rattle.table_steps.specs.Giving.{times, one_if}
use Rattle.table_steps.proofs.Counting.{times_append, times_strong_in}
use Rattle.table_steps.proofs.StartDuties.{one_self}
use Rattle.table_steps.proofs.CountDuties.{into_strong, any_most}
use Rattle.table_steps.specs.declared.view.SeatMark.TheVariants.{Live, New}
use Rattle.table_steps.specs.declared.view.Note.{Note}
use Rattle.table_steps.specs.declared.view.Note.TheVariants.{Duty, Sems, Has, Unfit, Lies, Queued}
use Rattle.table_steps.specs.inside.Accounts.{FitsNote, AllFitNotes, Stands, AllStand, Coord, duty, mark, turning, owing, weight, weigh, total, is_last, reading, KeepsAccounts}
use Rattle.table_steps.proofs.Journals.{count_cons}
use Rattle.table_steps.proofs.Stepping.{St}
use Rattle.table_steps.proofs.Bounds.{sum_to, sum_add, sum_at, below_of, first_in, few_uses, few_given}

abbrev pub is_none : List ℕ → Bool
is_none [] = true
is_none (x ∷ xs) = false

abbrev pub EachFits : NetRows → List (List Note) → Type 0
EachFits net [] = Unit {0}
EachFits net (v ∷ vs) = AllFitNotes net v × EachFits net vs

-- what edges and tasks count of a release
abbrev pub at_edge : NetRows → (Coord → ℕ) → ℕ → ℕ
at_edge net T e = T (duty (token e)) + cond (is_weak net e) (T (duty (weakly e))) (T (duty (awaits e)))

abbrev pub at_task : NetRows → (Coord → ℕ) → ℕ → ℕ
at_task net T t = cond (is_none (in_edges net t)) (T (duty (source t))) 0 + cond (is_none (strong_in net t)) 0 (T (duty (unset t)))

abbrev pub held_by : NetRows → (Coord → ℕ) → ℕ
held_by net T = sum_to (at_edge net T) (length net.edges) + sum_to (at_task net T) (length net.tasks)

held_add : (net : NetRows) (S T U : Coord → ℕ) → ((c : Coord) → U c ≡ S c + T c) → held_by net U ≡ held_by net S + held_by net T
held_add net S T U same = omega (arith, sum_add (at_edge net S) (at_edge net T) (at_edge net U) (length net.edges) edges, sum_add (at_task net S) (at_task net T) (at_task net U) (length net.tasks) tasks)
  where
    by_weak : (w : Bool) (e : ℕ) → U (duty (token e)) + cond w (U (duty (weakly e))) (U (duty (awaits e))) ≡ S (duty (token e)) + cond w (S (duty (weakly e))) (S (duty (awaits e))) + (T (duty (token e)) + cond w (T (duty (weakly e))) (T (duty (awaits e))))
    by_weak true e = omega (arith, same (duty (token e)), same (duty (weakly e)))
    by_weak false e = omega (arith, same (duty (token e)), same (duty (awaits e)))

    edges : (e : ℕ) → at_edge net U e ≡ at_edge net S e + at_edge net T e
    edges e = by_weak (is_weak net e) e

    by_none : (a b : Bool) (t : ℕ) → cond a (U (duty (source t))) 0 + cond b 0 (U (duty (unset t))) ≡ cond a (S (duty (source t))) 0 + cond b 0 (S (duty (unset t))) + (cond a (T (duty (source t))) 0 + cond b 0 (T (duty (unset t))))
    by_none true true t = omega (arith, same (duty (source t)))
    by_none true false t = omega (arith, same (duty (source t)), same (duty (unset t)))
    by_none false true t = omega arith
    by_none false false t = omega (arith, same (duty (unset t)))

    tasks : (t : ℕ) → at_task net U t ≡ at_task net S t + at_task net T t
    tasks t = by_none (is_none (in_edges net t)) (is_none (strong_in net t)) t

-- a release counts at one edge or task at least
by_edge : (net : NetRows) (T : Coord → ℕ) (e : ℕ) → e < length net.edges → 1 ≤ at_edge net T e → 1 ≤ held_by net T
by_edge net T e below h = omega (arith, h, sum_at (at_edge net T) (length net.edges) e below)

by_task : (net : NetRows) (T : Coord → ℕ) (t : ℕ) → t < length net.tasks → 1 ≤ at_task net T t → 1 ≤ held_by net T
by_task net T t below h = omega (arith, h, sum_at (at_task net T) (length net.tasks) t below)

none_is : (es : List ℕ) → es ≡ [] → is_none es ≡ true
none_is [] h = refl
none_is (e ∷ es) h = absurd (cc)

some_is : (es : List ℕ) → es ≢ [] → is_none es ≡ false
some_is [] h = absurd (h refl)
some_is (e ∷ es) h = refl

source_held : (net : NetRows) (T : Coord → ℕ) (t : ℕ) → t < length net.tasks → IsSource net t → 1 ≤ T (duty (source t)) → 1 ≤ held_by net T
source_held net T t below is h = by_task net T t below (omega (arith, h, ap (λ b. cond b (T (duty (source t))) 0) (none_is (in_edges net t) is)))

unset_held : (net : NetRows) (T : Coord → ℕ) (t : ℕ) → t < length net.tasks → strong_in net t ≢ [] → 1 ≤ T (duty (unset t)) → 1 ≤ held_by net T
unset_held net T t below is h = by_task net T t below (omega (arith, h, ap (λ b. cond b 0 (T (duty (unset t)))) (some_is (strong_in net t) is)))

weak_held : (net : NetRows) (T : Coord → ℕ) (e : ℕ) → e < length net.edges → is_weak net e ≡ true → 1 ≤ T (duty (token e)) + T (duty (weakly e)) → 1 ≤ held_by net T
weak_held net T e below is h = by_edge net T e below (omega (arith, h, ap (λ b. cond b (T (duty (weakly e))) (T (duty (awaits e)))) is))

strong_held : (net : NetRows) (T : Coord → ℕ) (e : ℕ) → e < length net.edges → is_weak net e ≡ false → 1 ≤ T (duty (token e)) + T (duty (awaits e)) → 1 ≤ held_by net T
strong_held net T e below is h = by_edge net T e below (omega (arith, h, ap (λ b. cond b (T (duty (weakly e))) (T (duty (awaits e)))) is))

one_held : (net : NetRows) (x : Note) → FitsNote net x → weight turning x ≤ weight (duty running) x + weight owing x + held_by net (λ c. weight c x)
one_held net (Duty (Told n y)) fits = omega arith
one_held net (Duty (Fresh t Source)) fits = omega (arith, source_held net (λ c. weight c (Duty (Fresh t Source))) t fits.in_tasks fits.fits (omega (arith, one_self t)))
one_held net (Duty (Fresh t Strong)) fits = omega (arith, unset_held net (λ c. weight c (Duty (Fresh t Strong))) t fits.in_tasks fits.fits (omega (arith, one_self t)))
one_held net (Duty (Fresh t (Weak e))) fits = omega (arith, weak_held net (λ c. weight c (Duty (Fresh t (Weak e)))) e fits.in_range fits.fits.0 (omega (arith, one_self e)))
one_held net (Duty (Collecting t Source taken left)) fits = omega (arith, source_held net (λ c. weight c (Duty (Collecting t Source taken left))) t fits.0.in_tasks fits.0.fits (omega (arith, one_self t)))
one_held net (Duty (Collecting t Strong taken left)) fits =
    let f = first_in net t fits.0.fits in
    omega (
      arith,
      strong_held net (λ c. weight c (Duty (Collecting t Strong taken left))) f.edge (below_of net t f.edge f.into) (into_strong net t f.edge f.into)
          (omega (arith, times_append f.edge taken left, ap (times f.edge) fits.1, times_strong_in net t f.edge, ap one_if f.into)),
    )
one_held net (Duty (Collecting t (Weak e) taken left)) fits =
    omega (arith, weak_held net (λ c. weight c (Duty (Collecting t (Weak e) taken left))) e fits.0.in_range fits.0.fits.0 (omega (arith, times_append e taken left, ap (times e) fits.1, one_self e)))
one_held net (Duty Ticket) fits = omega arith
one_held net (Duty (Open n t)) fits = omega arith
one_held net (Duty (Owes gives)) fits = omega arith
one_held net (Duty (Counting e)) fits = omega arith
one_held net (Sems k l) fits = omega arith
one_held net (Has m) fits = omega arith
one_held net (Unfit s n t) fits = omega arith
one_held net (Lies k e p) fits = omega arith
one_held net (Queued q qs) fits = omega arith

view_held : (net : NetRows) (v : List Note) → AllFitNotes net v → weigh turning v ≤ weigh (duty running) v + weigh owing v + held_by net (λ c. weigh c v)
view_held net [] fits = omega arith
view_held net (x ∷ xs) fits = omega (arith, one_held net x fits.0, view_held net xs fits.1, held_add net (λ c. weight c x) (λ c. weigh c xs) (λ c. weigh c (x ∷ xs)) (λ c. refl))

all_held : (net : NetRows) (views : List (List Note)) → EachFits net views → total turning views ≤ total (duty running) views + total owing views + held_by net (λ c. total c views)
all_held net [] fits = omega arith
all_held net (v ∷ vs) fits = omega (arith, view_held net v fits.0, all_held net vs fits.1, held_add net (λ c. weigh c v) (λ c. total c vs) (λ c. total c (v ∷ vs)) (λ c. refl))

last_are : (xs : List Entry) → count_by is_last xs + starts xs ≡ length xs
last_are [] = refl
last_are (x ∷ xs) = omega (arith, last_are xs, one x, count_cons is_last x xs, count_cons is_start x xs)
  where
    one : (x : Entry) → one_if (is_last x) + one_if (is_start x) ≡ 1
    one (Start t c i) = refl
    one (End n g i) = refl
    one (Fault n w) = refl
    one (Drop t c w) = refl

sum_larger : (f : ℕ → ℕ) (n : ℕ) → ((k : ℕ) → f k ≤ 2097155) → sum_to f n ≤ n * 2097155
sum_larger f zero each = omega arith
sum_larger f (suc n) each = omega (arith, sum_larger f n each, each n)

nil_most : (n : ℕ) → nil n ≤ 1
nil_most zero = omega arith
nil_most (suc n) = omega arith

-- so the live turns are few
pub few_live : {S : Type 0} {part : S → List Part} (net : NetRows) (limit : ℕ) (s : St S) (h : KeepsAccounts part net limit s) → EachFits net s.views → total (mark Live) s.views + total (mark New) s.views ≤ 1000000000000000000
few_live net limit s h fits =
    omega (
      arith,
      h.balanced.by_turns.turns,
      h.balanced.by_turns.ended,
      all_held net s.views fits,
      few_uses net limit s h,
      last_are h.journal,
      h.balanced.by_journal.size,
      sum_larger (at_edge net (λ c. total c s.views)) (length net.edges) edge_few,
      tasks_few (length net.tasks) (omega arith),
      h.fits.rows.task_count,
      h.fits.rows.edge_count,
    )
  where
    T : Coord → ℕ
    T c = total c s.views

    by_weak : (e : ℕ) (w : Bool) → is_weak net e ≡ w → T (duty (token e)) + cond w (T (duty (weakly e))) (T (duty (awaits e))) ≤ 2097155
    by_weak e true is = omega (arith, h.balanced.by_edges e, h.balanced.by_duties.weaks e is, few_given net limit s h e)
    by_weak e false is = omega (arith, h.balanced.by_edges e, h.balanced.by_duties.states e is, few_given net limit s h e, any_most ((reading net s.words).edge e))

    edge_few : (e : ℕ) → at_edge net (λ c. total c s.views) e ≤ 2097155
    edge_few e = by_weak e (is_weak net e) refl

    source_few : (t : ℕ) → t < length net.tasks → (es : List ℕ) → in_edges net t ≡ es → cond (is_none es) (T (duty (source t))) 0 ≤ 1
    source_few t below [] is = omega (arith, h.balanced.by_duties.sources t is below)
    source_few t below (e ∷ es) is = omega arith

    unset_few : (t : ℕ) (es : List ℕ) → strong_in net t ≡ es → cond (is_none es) 0 (T (duty (unset t))) ≤ 1
    unset_few t [] is = omega arith
    unset_few t (e ∷ es) is = omega (arith, h.balanced.by_duties.unsets t (λ none. absurd (cc)), nil_most ((reading net s.words).join t))

    tasks_few : (n : ℕ) → n ≤ length net.tasks → sum_to (at_task net (λ c. total c s.views)) n ≤ n * 2
    tasks_few zero below = omega arith
    tasks_few (suc n) below = omega (arith, tasks_few n (omega arith), source_few n (omega arith) (in_edges net n) refl, unset_few n (strong_in net n) refl)

-- what the rule says of each release
pub fits_of : (net : NetRows) (journal : List Entry) (v : List Note) → AllStand net journal v → AllFitNotes net v
fits_of net journal [] h = tt
fits_of net journal (x ∷ xs) h = (one x h.0, fits_of net journal xs h.1)
  where
    one : (x : Note) → Stands net journal x → FitsNote net x
    one (Duty (Told n y)) h = tt
    one (Duty (Fresh t cause)) h = h
    one (Duty (Collecting t cause taken left)) h = h
    one (Duty Ticket) h = tt
    one (Duty (Open n t)) h = tt
    one (Duty (Owes gives)) h = h
    one (Duty (Counting e)) h = tt
    one (Sems k l) h = tt
    one (Has m) h = tt
    one (Unfit s n t) h = tt
    one (Lies k e p) h = tt
    one (Queued q qs) h = tt

each_fits : (net : NetRows) (views : List (List Note)) → ((id : ℕ) (v : List Note) → get_elem? views id ≡ some v → AllFitNotes net v) → EachFits net views
each_fits net [] each = tt
each_fits net (v ∷ vs) each = (each 0 v refl, each_fits net vs (λ id w at. each (suc id) w at))

-- a turn may always be added, and a Drop always be drawn
pub room_for_turn : {S : Type 0} {part : S → List Part} (net : NetRows) (limit : ℕ) (s : St S) (h : KeepsAccounts part net limit s) → total (mark Live) s.views + 1 ≤ 1152921504606846976
room_for_turn net limit s h = omega (arith, few_live net limit s h (each_fits net s.views (λ k v at. fits_of net h.journal v (h.views k v at).stand)))
