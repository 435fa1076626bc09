-- A run has few starts and drops.
use Rattle.std.proofs.Common.{◌≡◌, ◌≢◌, ◌⊎◌, inl, inr, ℕ, zero, suc, ◌+◌, ◌*◌, ◌<◌, ◌≤◌, Bool, true, false, not, ◌&&◌, cond, eqb, List, [], ◌∷◌, ◌++◌, length, Option, Some, None, refl, sym, ap, ◌∙◌, subst, arith}
use Rattle.std.specs.Prelude.{count_by, slice_get, ◌==◌}
use Rattle.std.specs.Option.{option_map_or}
use Rattle.std.specs.List.{AllByRecursion, list_any}
use Rattle.std.proofs.lemmas.Bool.Decides.{nat_tests}
use Rattle.std.proofs.lemmas.Bool.{cases_eq, cases_lt, false≢true}
use Rattle.task_graph.specs.NetRows.{NetRows}
use Rattle.task_graph.specs.Net.{IsSource, is_weak, is_weak_row, strong_in}
use Rattle.task_graph.specs.declared.net.EdgeRow.{EdgeRow}
use Rattle.journal_rules.specs.declared.entry.Cause.{Cause}
use Rattle.journal_rules.specs.declared.entry.Cause.TheVariants.{Source, Strong, Weak}
use Rattle.journal_rules.specs.declared.entry.Entry.{Entry}
use Rattle.journal_rules.specs.declared.entry.Entry.TheVariants.{Start, End, Fault, Drop}
use Rattle.journal_rules.specs.Entries.{EachAfterThese}
use Rattle.journal_rules.specs.Counts.{given, gives_edge, used, used_weak, used_source, uses, uses_any, is_source, is_strong, is_weak_at, is_start, is_fault, starts, faults}
use Rattle.journal_rules.specs.Calm.{used_at}
use Rattle.journal_rules.specs.ShapeLegal.{MayFollow}
use Rattle.journal_rules.proofs.Tallying.{and_true}
use Rattle.journal_rules.specs.declared.entry.Part.{Part}
use Rattle.table_steps.specs.Giving.{one_if}
use Rattle.table_steps.proofs.Counting.{is_strong_into, get_past}
use Rattle.table_steps.proofs.CountDuties.{into_strong}
use Rattle.table_steps.proofs.ResetDuties.{all_into}
use Rattle.table_steps.specs.inside.Accounts.{is_drop, KeepsAccounts}
use Rattle.table_steps.proofs.Journals.{count_cons}
use Rattle.table_steps.proofs.Stepping.{St}

-- SUMS
abbrev pub sum_to : (ℕ → ℕ) → ℕ → ℕ
sum_to f zero = 0
sum_to f (suc n) = sum_to f n + f n

pub sum_add : (f g h : ℕ → ℕ) (n : ℕ) → ((k : ℕ) → h k ≡ f k + g k) → sum_to h n ≡ sum_to f n + sum_to g n
sum_add f g h zero same = omega arith
sum_add f g h (suc n) same = omega (arith, sum_add f g h n same, same n)

pub sum_at : (f : ℕ → ℕ) (n at : ℕ) → at < n → f at ≤ sum_to f n
sum_at f zero at below = absurd (omega arith)
sum_at f (suc n) at below = by_eq (cases_eq at n) (λ k. sum_at f n at k)
  where
    by_eq : (at ≡ n) ⊎ (at ≢ n) → (at < n → f at ≤ sum_to f n) → f at ≤ sum_to f n + f n
    by_eq (inl same) deeper = omega (arith, ap f same)
    by_eq (inr other) deeper = omega (arith, deeper (lower at n other below))
      where
        lower : (a b : ℕ) → a ≢ b → a < suc b → a < b
        lower a b other below = omega (arith, other, below)

pub sum_most : (f : ℕ → ℕ) (n : ℕ) → ((k : ℕ) → k < n → f k ≤ 1) → sum_to f n ≤ n
sum_most f zero each = omega arith
sum_most f (suc n) each = omega (arith, sum_most f n (λ k below. each k (omega arith)), each n (omega arith))

sum_large : (f : ℕ → ℕ) (n : ℕ) → ((k : ℕ) → f k ≤ 2097154) → sum_to f n ≤ n * 2097154
sum_large f zero each = omega arith
sum_large f (suc n) each = omega (arith, sum_large f n each, each n)

-- WHAT EACH ENTRY OF A LEGAL JOURNAL IS
abbrev pub FitsCause : NetRows → ℕ → Cause → Type 0
FitsCause net t Source = (t < length net.tasks) × IsSource net t
FitsCause net t Strong = strong_in net t ≢ []
FitsCause net t (Weak e) = (e < length net.edges) × (is_weak net e ≡ true)

abbrev pub Fits : NetRows → Entry → Type 0
Fits net (Start t cause ins) = FitsCause net t cause
Fits net (End start gives inner) = Unit {0}
Fits net (Fault start why) = Unit {0}
Fits net (Drop t cause why) = FitsCause net t cause

abbrev pub AllFit : NetRows → List Entry → Type 0
AllFit net [] = Unit {0}
AllFit net (x ∷ xs) = Fits net x × AllFit net xs

legal_fits : (net : NetRows) (limit : ℕ) (before xs : List Entry) → EachAfterThese (MayFollow net limit) before xs → AllFit net xs
legal_fits net limit before [] each = tt
legal_fits net limit before (x ∷ xs) each = (one x each.0, legal_fits net limit (before ++ x ∷ []) xs each.1)
  where
    one : (x : Entry) → MayFollow net limit before x → Fits net x
    one (Start t Source ins) may = (may.in_range.0, may.release.0)
    one (Start t Strong ins) may = may.release.0
    one (Start t (Weak e) ins) may = (may.in_range.1, may.release.0)
    one (End start gives inner) may = tt
    one (Fault start why) may = tt
    one (Drop t Source why) may = (may.in_range.0, may.release.0)
    one (Drop t Strong why) may = may.release.0
    one (Drop t (Weak e) why) may = (may.in_range.1, may.release.0)

-- USES
abbrev pub uses_one : NetRows → ℕ → Entry → ℕ
uses_one net e x = cond (is_weak net e) (one_if (uses_any (is_weak_at e) x)) (option_map_or (λ (r : EdgeRow). one_if (uses is_strong r.to x)) (slice_get net.edges e) 0)

used_cons : (net : NetRows) (e : ℕ) (x : Entry) (xs : List Entry) → used_at net e (x ∷ xs) ≡ uses_one net e x + used_at net e xs
used_cons net e x xs = by_row (is_weak net e) (slice_get net.edges e)
  where
    by_row : (w : Bool) (row : Option EdgeRow) → cond w (used_weak e (x ∷ xs)) (option_map_or (λ (r : EdgeRow). used r.to (x ∷ xs)) row 0)
        ≡ cond w (one_if (uses_any (is_weak_at e) x)) (option_map_or (λ (r : EdgeRow). one_if (uses is_strong r.to x)) row 0) + cond w (used_weak e xs) (option_map_or (λ (r : EdgeRow). used r.to xs) row 0)
    by_row true row = count_cons (uses_any (is_weak_at e)) x xs
    by_row false None = omega arith
    by_row false (Some row) = count_cons (uses is_strong row.to) x xs

-- a Start or a Drop
abbrev pub is_use : Entry → Bool
is_use x = uses_any (λ c. true) x

pub below_of : (net : NetRows) (t e : ℕ) → is_strong_into net t e ≡ true → e < length net.edges
below_of net t e into = by_place (cases_lt e (length net.edges))
  where
    by_place : (e < length net.edges) ⊎ (length net.edges ≤ e) → e < length net.edges
    by_place (inl below) = below
    by_place (inr past) = absurd (false≢true (sym (ap (λ o. option_map_or (λ (r : EdgeRow). (r.to == t) && not (is_weak_row net r)) o false) (get_past net.edges e past)) ∙ into))

-- the first strong in-edge
pub record FirstIn (net : NetRows) (t : ℕ) : Type 0 where
  pub edge : ℕ
  pub into : is_strong_into net t edge ≡ true

pub first_in : (net : NetRows) (t : ℕ) → strong_in net t ≢ [] → FirstIn net t
first_in net t more = by_list (strong_in net t) more (all_into net t)
  where
    by_list : (es : List ℕ) → es ≢ [] → AllByRecursion (λ e. is_strong_into net t e ≡ true) es → FirstIn net t
    by_list [] more all = absurd (more refl)
    by_list (e ∷ es) more all = record { edge = e; into = all.0 }

-- an entry that uses a release by the strong in-edges uses a token of one of them
strong_one : (net : NetRows) (t : ℕ) (x : Entry) → strong_in net t ≢ [] → ((u : ℕ) → uses is_strong u x ≡ eqb t u) → 1 ≤ sum_to (λ e. uses_one net e x) (length net.edges)
strong_one net t x more is =
    let f = first_in net t more in
    omega (arith, sum_at (λ e. uses_one net e x) (length net.edges) f.edge (below_of net t f.edge f.into), ap (λ w. cond w (one_if (uses_any (is_weak_at f.edge) x)) (option_map_or (λ (r : EdgeRow). one_if (uses is_strong r.to x)) (slice_get net.edges f.edge) 0)) (into_strong net t f.edge f.into), by_row (slice_get net.edges f.edge) f.into)
  where
    by_test : (b w : Bool) (u : ℕ) → (b ≡ true → eqb t u ≡ true) → b && not w ≡ true → one_if (uses is_strong u x) ≡ 1
    by_test true w u hit h = ap one_if (is u ∙ hit refl)
    by_test false w u hit h = absurd (false≢true h)

    by_row : (row : Option EdgeRow) → option_map_or (λ (r : EdgeRow). (r.to == t) && not (is_weak_row net r)) row false ≡ true → option_map_or (λ (r : EdgeRow). one_if (uses is_strong r.to x)) row 0 ≡ 1
    by_row None h = absurd (false≢true h)
    by_row (Some row) h = by_test (row.to == t) (is_weak_row net row) row.to (λ z. grind (arith, nat_tests)) h

weak_one : (net : NetRows) (f : ℕ) (x : Entry) → f < length net.edges → is_weak net f ≡ true → uses_any (is_weak_at f) x ≡ true → 1 ≤ sum_to (λ e. uses_one net e x) (length net.edges)
weak_one net f x below weak is =
    omega (arith, sum_at (λ e. uses_one net e x) (length net.edges) f below, ap (λ w. cond w (one_if (uses_any (is_weak_at f) x)) (option_map_or (λ (r : EdgeRow). one_if (uses is_strong r.to x)) (slice_get net.edges f) 0)) weak, ap one_if is)

self : (t : ℕ) → eqb t t ≡ true
self t = grind (arith, nat_tests)

one_use : (net : NetRows) (x : Entry) → Fits net x → one_if (is_use x) ≤ one_if (uses_any is_source x) + sum_to (λ e. uses_one net e x) (length net.edges)
one_use net (Start t Source ins) fits = omega arith
one_use net (Start t Strong ins) fits = omega (arith, strong_one net t (Start t Strong ins) fits (λ u. and_true (eqb t u)))
one_use net (Start t (Weak f) ins) fits = omega (arith, weak_one net f (Start t (Weak f) ins) fits.0 fits.1 (self f))
one_use net (End n g i) fits = omega arith
one_use net (Fault n w) fits = omega arith
one_use net (Drop t Source why) fits = omega arith
one_use net (Drop t Strong why) fits = omega (arith, strong_one net t (Drop t Strong why) fits (λ u. and_true (eqb t u)))
one_use net (Drop t (Weak f) why) fits = omega (arith, weak_one net f (Drop t (Weak f) why) fits.0 fits.1 (self f))

all_uses : (net : NetRows) (xs : List Entry) → AllFit net xs → count_by is_use xs ≤ count_by (uses_any is_source) xs + sum_to (λ e. used_at net e xs) (length net.edges)
all_uses net [] fit = omega arith
all_uses net (x ∷ xs) fit =
    omega (arith, all_uses net xs fit.1, one_use net x fit.0, count_cons is_use x xs, count_cons (uses_any is_source) x xs, sum_add (λ e. uses_one net e x) (λ e. used_at net e xs) (λ e. used_at net e (x ∷ xs)) (length net.edges) (λ e. used_cons net e x xs))

-- uses of source tasks
source_one : (net : NetRows) (x : Entry) → Fits net x → one_if (uses_any is_source x) ≤ sum_to (λ t. one_if (uses is_source t x)) (length net.tasks)
source_one net (Start t Source ins) fits = omega (arith, sum_at (λ u. one_if (uses is_source u (Start t Source ins))) (length net.tasks) t fits.0, ap one_if (and_true (eqb t t) ∙ self t))
source_one net (Start t Strong ins) fits = omega arith
source_one net (Start t (Weak f) ins) fits = omega arith
source_one net (End n g i) fits = omega arith
source_one net (Fault n w) fits = omega arith
source_one net (Drop t Source why) fits = omega (arith, sum_at (λ u. one_if (uses is_source u (Drop t Source why))) (length net.tasks) t fits.0, ap one_if (and_true (eqb t t) ∙ self t))
source_one net (Drop t Strong why) fits = omega arith
source_one net (Drop t (Weak f) why) fits = omega arith

source_uses : (net : NetRows) (xs : List Entry) → AllFit net xs → count_by (uses_any is_source) xs ≤ sum_to (λ t. used_source t xs) (length net.tasks)
source_uses net [] fit = omega arith
source_uses net (x ∷ xs) fit =
    omega (arith, source_uses net xs fit.1, source_one net x fit.0, count_cons (uses_any is_source) x xs, sum_add (λ t. one_if (uses is_source t x)) (λ t. used_source t xs) (λ t. used_source t (x ∷ xs)) (length net.tasks) (λ t. count_cons (uses is_source t) x xs))

-- a task that was used as a source is one
source_is : (net : NetRows) (t : ℕ) (xs : List Entry) → AllFit net xs → used_source t xs ≢ 0 → IsSource net t
source_is net t [] fit more = absurd (more refl)
source_is net t (x ∷ xs) fit more = by_zero (cases_eq (used_source t xs) 0) (λ k. source_is net t xs fit.1 k)
  where
    fits_task : (u : ℕ) → eqb u t ≡ true → IsSource net u → IsSource net t
    fits_task u hit is = subst (IsSource net) (let z : u ≡ t = grind (arith, nat_tests) in z) is

    hit_of : (b : Bool) → one_if (b && true) ≢ 0 → b ≡ true
    hit_of true h = refl
    hit_of false h = absurd (h refl)

    miss_of : (b : Bool) → one_if (b && false) ≡ 0
    miss_of true = refl
    miss_of false = refl

    one : (y : Entry) → Fits net y → one_if (uses is_source t y) ≢ 0 → IsSource net t
    one (Start u Source ins) fits h = fits_task u (hit_of (eqb u t) h) fits.1
    one (Start u Strong ins) fits h = absurd (h (miss_of (eqb u t)))
    one (Start u (Weak f) ins) fits h = absurd (h (miss_of (eqb u t)))
    one (End n g i) fits h = absurd (h refl)
    one (Fault n w) fits h = absurd (h refl)
    one (Drop u Source why) fits h = fits_task u (hit_of (eqb u t) h) fits.1
    one (Drop u Strong why) fits h = absurd (h (miss_of (eqb u t)))
    one (Drop u (Weak f) why) fits h = absurd (h (miss_of (eqb u t)))

    by_zero : (used_source t xs ≡ 0) ⊎ (used_source t xs ≢ 0) → (used_source t xs ≢ 0 → IsSource net t) → IsSource net t
    by_zero (inl none) deeper = one x fit.0 (λ z. more (omega (arith, z, none, count_cons (uses is_source t) x xs)))
    by_zero (inr some_there) deeper = deeper some_there

-- KINDS OF ENTRIES
abbrev pub is_end : Entry → Bool
is_end (End start gives inner) = true
is_end _ = false

parts_of : (xs : List Entry) → length xs ≡ starts xs + count_by is_end xs + faults xs + count_by is_drop xs
parts_of [] = refl
parts_of (x ∷ xs) = omega (arith, parts_of xs, one x, count_cons is_start x xs, count_cons is_end x xs, count_cons is_fault x xs, count_cons is_drop x xs)
  where
    one : (x : Entry) → 1 ≡ one_if (is_start x) + one_if (is_end x) + one_if (is_fault x) + one_if (is_drop x)
    one (Start t c i) = refl
    one (End n g i) = refl
    one (Fault n w) = refl
    one (Drop t c w) = refl

pub bit : (b : Bool) → one_if b ≤ 1
bit true = omega arith
bit false = omega arith

given_ends : (e : ℕ) (xs : List Entry) → count_by (gives_edge e) xs ≤ count_by is_end xs
given_ends e [] = omega arith
given_ends e (x ∷ xs) = omega (arith, given_ends e xs, count_cons (gives_edge e) x xs, count_cons is_end x xs, one x)
  where
    one : (x : Entry) → one_if (gives_edge e x) ≤ one_if (is_end x)
    one (Start t c i) = omega arith
    one (End n g i) = bit (list_any (λ q. q == e) g)
    one (Fault n w) = omega arith
    one (Drop t c w) = omega arith

uses_are : (xs : List Entry) → count_by is_use xs ≡ starts xs + count_by is_drop xs
uses_are [] = refl
uses_are (x ∷ xs) = omega (arith, uses_are xs, one x, count_cons is_use x xs, count_cons is_start x xs, count_cons is_drop x xs)
  where
    one : (x : Entry) → one_if (is_use x) ≡ one_if (is_start x) + one_if (is_drop x)
    one (Start t c i) = refl
    one (End n g i) = refl
    one (Fault n w) = refl
    one (Drop t c w) = refl

-- an edge is given few tokens
pub few_given : {S : Type 0} {part : S → List Part} (net : NetRows) (limit : ℕ) (s : St S) (h : KeepsAccounts part net limit s) (e : ℕ) → given net e h.journal ≤ 2097154
few_given net limit s h e = omega (arith, given_ends e h.journal, by_row (slice_get net.edges e), parts_of h.journal, h.balanced.by_journal.size, h.balanced.by_admissions.room, h.fits.limited)
  where
    by_row : (row : Option EdgeRow) → option_map_or (λ (r : EdgeRow). one_if r.start) row 0 ≤ 1
    by_row None = omega arith
    by_row (Some row) = bit row.start

-- so the starts and drops of a run are few
pub few_uses : {S : Type 0} {part : S → List Part} (net : NetRows) (limit : ℕ) (s : St S) (h : KeepsAccounts part net limit s) → starts h.journal + count_by is_drop h.journal ≤ 9007300000000000
few_uses net limit s h =
    let fit = legal_fits net limit [] h.journal h.balanced.by_journal.legal in
    omega (
      arith,
      uses_are h.journal,
      all_uses net h.journal fit,
      source_uses net h.journal fit,
      sum_most (λ t. used_source t h.journal) (length net.tasks) (λ t below. by_zero t below fit (cases_eq (used_source t h.journal) 0)),
      sum_large (λ e. used_at net e h.journal) (length net.edges) small,
      h.fits.rows.task_count,
      h.fits.rows.edge_count,
    )
  where
    by_zero : (t : ℕ) → t < length net.tasks → AllFit net h.journal → (used_source t h.journal ≡ 0) ⊎ (used_source t h.journal ≢ 0) → used_source t h.journal ≤ 1
    by_zero t below fit (inl none) = omega (arith, none)
    by_zero t below fit (inr some_there) = omega (arith, h.balanced.by_duties.sources t (source_is net t h.journal fit some_there) below)

    small : (e : ℕ) → used_at net e h.journal ≤ 2097154
    small e = omega (arith, h.balanced.by_edges e, few_given net limit s h e)
