-- A table begins as its rule says, and its keeper deals out the first releases.
use Rattle.std.proofs.Common.{◌≡◌, ◌⊎◌, inl, inr, ℕ, zero, suc, ◌+◌, ◌-◌, ◌*◌, ◌<◌, ◌≤◌, Bool, true, false, List, [], ◌∷◌, ◌++◌, length, sym, refl, ap, ◌∙◌, subst, arith, get_or, map}
use Rattle.std.specs.Prelude.{slice_index, slice_get, Some, drop, nat_lt}
use Rattle.std.specs.Option.{option_map_or}
use Rattle.std.proofs.lemmas.Bool.Decides.{nat_tests}
use Rattle.std.proofs.lemmas.List.{length-map}
use Rattle.std.proofs.lemmas.Bool.{cases_lt}
use mathlib.Core.Option.{some, some-injective, some-ne-none}
use lib.ListN.{get_elem?}
use Rattle.atomic_table.specs.Table.{opening}
use Rattle.task_graph.specs.NetRows.{NetRows}
use Rattle.task_graph.specs.Net.{IsNet, in_edges, strong_in}
use Rattle.task_graph.specs.declared.net.EdgeRow.{EdgeRow}
use Rattle.journal_rules.specs.Counts.{first_tokens}
use Rattle.std.specs.Prelude.{All}
use Rattle.atomic_table.specs.Seated.{TableId}
use Rattle.join_tables.specs.States.{FreshState}
use Rattle.join_tables.specs.declared.releases.FirstRelease.{FirstRelease}
use Rattle.table_steps.specs.declared.view.TurnDuty.{TurnDuty}
use Rattle.table_steps.specs.declared.view.SeatMark.TheVariants.{Live}
use Rattle.table_steps.specs.declared.view.Note.{Note}
use Rattle.table_steps.specs.Giving.{one_if}
use Rattle.table_steps.specs.inside.Accounts.{mark, busy, resting, weigh, total, FitsPlan, ViewPart, KeepsAccounts, reading, tokens_from, marks_from, first_notes, opening_notes}
use Rattle.table_steps.specs.declared.view.TurnDuty.TheVariants.{Told, Fresh, Collecting, Ticket, Open, Owes, Counting}
use Rattle.table_steps.specs.declared.view.Lot.TheVariants.{Putting, Taking}
use Rattle.table_steps.specs.inside.Slots.{SlotCoord, lot, slot_weigh, slots_in}
use Rattle.table_steps.specs.inside.SlotMarks.{HomeIs, label_in, label_of}
use Rattle.journal_rules.specs.declared.entry.Part.{Part}
use Rattle.journal_rules.specs.declared.entry.Part.TheVariants.{Nothing}
use Rattle.table_steps.proofs.SlotViews.{slots_weigh}
use Rattle.table_steps.specs.Credits.{first_credit}
use Rattle.table_steps.specs.inside.Opening.{count_without_token, is_empty, source_duties, full_duties, first_duties, parts_of_tokens, first_queue}
use Rattle.join_tables.specs.inside.FirstReleases.{states_of, duties_of, opening_word, AreOpeningWords, AreFirstParcels, DealsFirst}
use Rattle.table_steps.proofs.Counting.{get_past}
use Rattle.table_steps.proofs.OpeningDuties.{strong_below}
use Rattle.table_steps.proofs.Beginning.{AreFirst, are_first, opening_slots, opening_balanced, opening_view}

-- THE FIRST RELEASES
rests_none : (rs : List FirstRelease) → weigh resting (first_notes (duties_of rs)) ≡ 0
rests_none [] = refl
rests_none (r ∷ rs) = omega (arith, rests_none rs)

busy_lives : (rs : List FirstRelease) → weigh busy (first_notes (duties_of rs)) ≡ weigh (mark Live) (first_notes (duties_of rs))
busy_lives [] = refl
busy_lives (r ∷ rs) = omega (arith, busy_lives rs)

drop_from : (rs : List FirstRelease) (i : ℕ) (d : FirstRelease) → i < length rs → drop i rs ≡ get_or rs i d ∷ drop (suc i) rs
drop_from [] i d below = absurd (omega arith)
drop_from (r ∷ rs) zero d below = cc
drop_from (r ∷ rs) (suc i) d below = drop_from rs i d (omega arith)

pub deals_first : (rs : List FirstRelease) (i : ℕ) (d : FirstRelease) (v : List Note) → i < length rs → v ≡ first_notes (duties_of (drop i rs)) → DealsFirst (get_or rs i d).task (get_or rs i d).cause v
deals_first rs i d v below is = let tail = drop (suc i) rs in
    subst (λ w. DealsFirst (get_or rs i d).task (get_or rs i d).cause w) (sym (is ∙ ap (λ qs. first_notes (duties_of qs)) (drop_from rs i d below)))
    (refl, refl, rests_none tail, λ none. omega (arith, busy_lives tail, none))

-- THE FIRST WORDS
live_first : (xs : List TurnDuty) → weigh (mark Live) (first_notes xs) ≡ length xs
live_first [] = refl
live_first (x ∷ xs) = omega (arith, live_first xs)

source_few : (t : ℕ) (b : Bool) → length (source_duties t b) ≤ 1
source_few t true = omega arith
source_few t false = omega arith

full_few : (t : ℕ) (es : List ℕ) (n : ℕ) → length (full_duties t es n) ≤ 1
full_few t [] n = omega arith
full_few t (e ∷ es) zero = omega arith
full_few t (e ∷ es) (suc n) = omega arith

duties_length : (xs ys : List TurnDuty) → length (xs ++ ys) ≡ length xs + length ys
duties_length [] ys = omega arith
duties_length (x ∷ xs) ys = omega (arith, duties_length xs ys)

first_few : (net : NetRows) (t n : ℕ) → length (first_duties net t n) ≤ 2 * n
first_few net t zero = omega arith
first_few net t (suc n) = let a = source_duties t (is_empty (in_edges net t)) in let b = full_duties t (strong_in net t) (count_without_token net (strong_in net t)) in
    omega (arith, first_few net (suc t) n, source_few t (is_empty (in_edges net t)), full_few t (strong_in net t) (count_without_token net (strong_in net t)), duties_length (a ++ b) (first_duties net (suc t) n), duties_length a b)

index_past : (words : List ℕ) (k : ℕ) → length words ≤ k → slice_index words k ≡ 0
index_past [] k past = refl
index_past (w ∷ ws) zero past = absurd (omega arith)
index_past (w ∷ ws) (suc k) past = index_past ws k (omega arith)

edge_word : (net : NetRows) (live e : ℕ) → e < length net.edges → opening_word net live (tokens_from net + e) ≡ first_tokens net e
edge_word net live e below =
    let k = tokens_from net + e in
    let a : nat_lt k 40 ≡ false = grind (arith, nat_tests) in
    let b : nat_lt k (40 + length net.sems) ≡ false = grind (arith, nat_tests) in
    let m : nat_lt k (marks_from net) ≡ false = grind (arith, nat_tests) in
    let c : nat_lt k (tokens_from net) ≡ false = grind (arith, nat_tests) in
    let d : k - tokens_from net ≡ e = omega arith in
    let f : nat_lt (k - tokens_from net) (length net.edges) ≡ true = ap (λ q. nat_lt q (length net.edges)) d ∙ grind (arith, nat_tests) in
    rw (a, b, m, c, f) (ap (first_tokens net) d)

join_word : (net : NetRows) (live t : ℕ) → opening_word net live (tokens_from net + length net.edges + t) ≡ count_without_token net (strong_in net t)
join_word net live t =
    let k = tokens_from net + length net.edges + t in
    let a : nat_lt k 40 ≡ false = grind (arith, nat_tests) in
    let b : nat_lt k (40 + length net.sems) ≡ false = grind (arith, nat_tests) in
    let m : nat_lt k (marks_from net) ≡ false = grind (arith, nat_tests) in
    let c : nat_lt k (tokens_from net) ≡ false = grind (arith, nat_tests) in
    let d : k - tokens_from net ≡ length net.edges + t = omega arith in
    let f : nat_lt (k - tokens_from net) (length net.edges) ≡ false = ap (λ q. nat_lt q (length net.edges)) d ∙ grind (arith, nat_tests) in
    let g : k - tokens_from net - length net.edges ≡ t = omega arith in
    rw (a, b, m, c, f) (ap (λ q. count_without_token net (strong_in net q)) g)

unit_word : (net : NetRows) (live s : ℕ) → s < length net.sems → opening_word net live (40 + s) ≡ 0
unit_word net live s below =
    let a : nat_lt (40 + s) 40 ≡ false = grind (arith, nat_tests) in
    let b : nat_lt (40 + s) (40 + length net.sems) ≡ true = grind (arith, nat_tests) in
    rw (a, b) refl

credit_word : (net : NetRows) (live s : ℕ) → s < length net.sems → opening_word net live (40 + length net.sems + s) ≡ first_credit
credit_word net live s below =
    let k = 40 + length net.sems + s in
    let a : nat_lt k 40 ≡ false = grind (arith, nat_tests) in
    let b : nat_lt k (40 + length net.sems) ≡ false = grind (arith, nat_tests) in
    let c : nat_lt k (marks_from net) ≡ true = grind (arith, nat_tests) in
    rw (a, b, c) refl

mark_word : (net : NetRows) (live e : ℕ) → e < length net.edges → opening_word net live (marks_from net + e) ≡ 0
mark_word net live e below =
    let k = marks_from net + e in
    let a : nat_lt k 40 ≡ false = grind (arith, nat_tests) in
    let b : nat_lt k (40 + length net.sems) ≡ false = grind (arith, nat_tests) in
    let m : nat_lt k (marks_from net) ≡ false = grind (arith, nat_tests) in
    let c : nat_lt k (tokens_from net) ≡ true = grind (arith, nat_tests) in
    rw (a, b, m, c) refl

-- each slot is home at first
home_is : {X : Type 0} (xs : List X) (e m n : ℕ) → e < length xs → m ≡ 0 → n ≡ 0 → HomeIs (get_elem? (map some xs) e) m n
home_is [] e m n below a b = absurd (omega arith)
home_is (x ∷ xs) zero m n below a b = (a, b)
home_is (x ∷ xs) (suc e) m n below a b = home_is xs e m n (omega arith) a b

-- and the first releases have nothing of slots
first_none : (net : NetRows) (xs : List TurnDuty) → AreFirst net xs → slots_in (first_notes xs) ≡ []
first_none net [] a = refl
first_none net (Fresh t cause ∷ xs) a = first_none net xs a.1
first_none net (Told n y ∷ xs) a = absurd a
first_none net (Collecting t c k l ∷ xs) a = absurd a
first_none net (Ticket ∷ xs) a = absurd a
first_none net (Open n t ∷ xs) a = absurd a
first_none net (Owes g ∷ xs) a = absurd a
first_none net (Counting e ∷ xs) a = absurd a

no_slots : (net : NetRows) (limit : ℕ) (c : SlotCoord) → slot_weigh c (opening_notes net limit) ≡ 0
no_slots net limit c = let xs = first_duties net 0 (length net.tasks) in slots_weigh c (first_notes xs) ∙ ap (slot_weigh c) (first_none net xs (are_first net 0 (length net.tasks) (omega arith)))

-- what lies there
first_lies : {S : Type 0} (part : S → List Part) (xs : List S) (e : ℕ) (qs : List Part) → slice_get (map part xs) e ≡ Some qs → label_in part (get_elem? (map some xs) e) ≡ qs
first_lies part [] e qs is = absurd (cc)
first_lies part (x ∷ xs) zero qs is = some_is (part x) qs is
  where
    some_is : (a b : List Part) → Some a ≡ Some b → a ≡ b
    some_is a b same = cc
first_lies part (x ∷ xs) (suc e) qs is = first_lies part xs e qs is

none_lies : {S : Type 0} (part : S → List Part) (xs : List S) (e : ℕ) → length xs ≤ e → label_in part (get_elem? (map some xs) e) ≡ []
none_lies part [] e past = refl
none_lies part (x ∷ xs) zero past = absurd (omega arith)
none_lies part (x ∷ xs) (suc e) past = none_lies part xs e (omega arith)

first_past : (net : NetRows) (e : ℕ) → length net.edges ≤ e → first_tokens net e ≡ 0
first_past net e past = ap (λ o. option_map_or (λ (r : EdgeRow). one_if r.start) o 0) (get_past net.edges e past)

bare_past : (net : NetRows) (t : ℕ) → IsNet net → length net.tasks ≤ t → count_without_token net (strong_in net t) ≡ 0
bare_past net t rows past = by_list (strong_in net t) refl
  where
    by_list : (es : List ℕ) → strong_in net t ≡ es → count_without_token net es ≡ 0
    by_list [] is = refl
    by_list (e ∷ es) is = let below : t < length net.tasks = strong_below net rows t (λ none. let z : e ∷ es ≡ [] = sym is ∙ none in absurd (cc)) in absurd (omega (arith, below))

pub begins_table : {S : Type 0} (part : S → List Part) (net : NetRows) (limit live : ℕ) (words : List ℕ) (slots : List S) → AreFirstParcels net (map part slots) → limit ≤ 2097153 → live ≡ length (first_duties net 0 (length net.tasks)) → AreOpeningWords net live words
    → KeepsAccounts part net limit (opening words slots (opening_notes net limit))
begins_table {S} part net limit live words slots first limited live_is ws = record {
  fits = fits;
  size = ws.size;
  journal = [];
  counted = first_tokens net;
  balanced = opening_balanced net limit (reading net words) fits
      (ws.each 8 (omega (arith, ws.size))) (ws.each 16 (omega (arith, ws.size)) ∙ live_is) (ws.each 24 (omega (arith, ws.size))) (ws.each 32 (omega (arith, ws.size)))
      units credits edges joins;
  few = omega (arith, live_first (first_duties net 0 (length net.tasks)), first_few net 0 (length net.tasks), ws.rows.task_count);
  few_drops = omega arith;
  views = each;
  homes = λ e below. home_is slots e _ _ (omega (arith, count, below)) (ws.each (marks_from net + e) (omega (arith, ws.size, below)) ∙ mark_word net live e below)
      (omega (arith, no_slots net limit (lot Putting e), no_slots net limit (lot Taking e)));
  slots = opening_slots net ((reading net words).edge) _ (label_of part (map some slots)) (λ c. omega (arith, no_slots net limit c)) edges labels;
}
  where
    count : length slots ≡ length net.edges
    count = sym (length-map slots part) ∙ first.count

    fits : FitsPlan net limit
    fits = record { rows = ws.rows; limited = limited; maxima = ws.maxima }

    units : (s : ℕ) → s < length net.sems → (reading net words).unit s ≡ 0
    units s below = let is : nat_lt s (length net.sems) ≡ true = grind (arith, nat_tests) in rw is (ws.each (40 + s) (omega (arith, ws.size, below)) ∙ unit_word net live s below)

    credits : (s : ℕ) → s < length net.sems → (reading net words).credit s ≡ first_credit
    credits s below = let is : nat_lt s (length net.sems) ≡ true = grind (arith, nat_tests) in rw is (ws.each (40 + length net.sems + s) (omega (arith, ws.size, below)) ∙ credit_word net live s below)

    edges : (e : ℕ) → (reading net words).edge e ≡ first_tokens net e
    edges e = by_place (cases_lt e (length net.edges))
      where
        by_place : (e < length net.edges) ⊎ (length net.edges ≤ e) → (reading net words).edge e ≡ first_tokens net e
        by_place (inl below) = let is : nat_lt e (length net.edges) ≡ true = grind (arith, nat_tests) in rw is (ws.each (tokens_from net + e) (omega (arith, ws.size, below)) ∙ edge_word net live e below)
        by_place (inr past) = let is : nat_lt e (length net.edges) ≡ false = grind (arith, nat_tests) in rw is (sym (first_past net e past))

    labels : (e : ℕ) → label_of part (map some slots) e ≡ first_queue net e
    labels e = by_place (cases_lt e (length slots))
      where
        by_place : (e < length slots) ⊎ (length slots ≤ e) → label_of part (map some slots) e ≡ first_queue net e
        by_place (inl below) = first_lies part slots e (first_queue net e) (first.each e (omega (arith, below, length-map slots part)))
        by_place (inr past) = none_lies part slots e past ∙ sym (ap parts_of_tokens (first_past net e (omega (arith, past, count))))

    joins : (t : ℕ) → (reading net words).join t ≡ count_without_token net (strong_in net t)
    joins t = by_place (cases_lt t (length net.tasks))
      where
        by_place : (t < length net.tasks) ⊎ (length net.tasks ≤ t) → slice_index words (tokens_from net + length net.edges + t) ≡ count_without_token net (strong_in net t)
        by_place (inl below) = ws.each (tokens_from net + length net.edges + t) (omega (arith, ws.size, below)) ∙ join_word net live t
        by_place (inr past) = index_past words (tokens_from net + length net.edges + t) (omega (arith, ws.size, past)) ∙ sym (bare_past net t ws.rows past)

    each : (id : ℕ) (v : List Note) → get_elem? (opening_notes net limit ∷ []) id ≡ some v → ViewPart net [] (λ c. total c (opening_notes net limit ∷ [])) id v
    each zero v at = subst (λ w. ViewPart net [] (λ c. total c (opening_notes net limit ∷ [])) 0 w) (some-injective (opening_notes net limit) v at) (opening_view net (λ c. total c (opening_notes net limit ∷ [])))
    each (suc id) v at = absurd (some-ne-none v (sym at))

duties_count : (rs : List FirstRelease) → length (duties_of rs) ≡ length rs
duties_count [] = refl
duties_count (r ∷ rs) = omega (arith, duties_count rs)

pub live_is : (net : NetRows) (rs : List FirstRelease) (live : ℕ) → live ≡ length rs → duties_of rs ≡ first_duties net 0 (length net.tasks) → live ≡ length (first_duties net 0 (length net.tasks))
live_is net rs live is first = is ∙ sym (duties_count rs) ∙ ap length first

states_all : (n : TableId) (rs : List FirstRelease) → All (λ (f : FreshState). f.table ≡ n) (states_of n rs)
states_all n [] k d below = absurd (omega arith)
states_all n (r ∷ rs) zero d below = refl
states_all n (r ∷ rs) (suc k) d below = states_all n rs k d (omega arith)

pub all_of_table : (n : TableId) (rs : List FirstRelease) (fs : List FreshState) → fs ≡ states_of n rs → All (λ (f : FreshState). f.table ≡ n) fs
all_of_table n rs fs is = subst (λ xs. All (λ (f : FreshState). f.table ≡ n) xs) (sym is) (states_all n rs)
