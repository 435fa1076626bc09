-- Entries that are put at their places make the journal that they tell.
use Rattle.std.proofs.Common.{◌≡◌, ◌≢◌, ◌⊎◌, inl, inr, ℕ, zero, suc, ◌+◌, ◌<◌, ◌≤◌, true, false, List, [], ◌∷◌, ◌++◌, length, map, reverse, Option, Some, None, set, get_or, replicate, refl, sym, ap, ◌∙◌, subst, arith}
use Rattle.std.specs.Prelude.{◌==◌, nat_lt, slice_get, count_by}
use Rattle.journal_rules.specs.ShapeLegal.{ShapeLegal, MeetsDataRule}
use Rattle.journal_rules.specs.Complete.{Complete}
use Rattle.std.specs.List.{AllByRecursion}
use Rattle.std.proofs.lemmas.Bool.Decides.{nat_tests}
use Rattle.std.proofs.lemmas.Bool.{cases_eq}
use Rattle.std.proofs.lemmas.List.{same_lists, length-set, get_or-set_same, get_or-set_other, length-replicate, map-append, reverse-append}
use Rattle.journal_rules.specs.declared.entry.Entry.{Entry}
use Rattle.join_tables.specs.declared.keeper.Recorded.{Recorded}
use Rattle.join_tables.specs.Keeping.{drop_of, entries_of, entries_told, Merges, TellsSomeRun}
use Rattle.join_tables.specs.Finishing.{IsRunTold}
use Rattle.table_steps.specs.Giving.{one_if}
use Rattle.join_tables.specs.declared.fates.Dropping.{Dropping}
use Rattle.join_tables.specs.declared.fates.Fate.{Fate}
use Rattle.join_tables.specs.declared.fates.Fate.TheVariants.{Ended, Faulted, Dropped, AllDropped}
use Rattle.join_tables.specs.declared.entry_row.EntryRow.{EntryRow}
use Rattle.join_tables.specs.inside.Merging.{drop_row, fate_rows, all_rows, placed, journal_in}
use Rattle.table_steps.proofs.Journals.{count_cons}

-- HOW MANY ENTRIES THERE ARE
abbrev sums : (ℕ → ℕ) → ℕ → ℕ
sums f zero = 0
sums f (suc k) = sums f k + f k

sums_one : (f : ℕ → ℕ) (k : ℕ) → ((m : ℕ) → m < k → f m ≡ 1) → sums f k ≡ k
sums_one f zero each = refl
sums_one f (suc k) each = omega (arith, sums_one f k (λ m below. each m (omega (arith, below))), each k (omega arith))

-- those with numbers below k, number by number
sums_below : (rs : List Recorded) (k : ℕ) → sums (λ m. count_by (λ (r : Recorded). r.place == m) rs) k ≡ count_by (λ (r : Recorded). nat_lt r.place k) rs
sums_below rs zero = sym (none rs)
  where
    none : (rs : List Recorded) → count_by (λ (r : Recorded). nat_lt r.place 0) rs ≡ 0
    none [] = refl
    none (r ∷ rs) = let past : nat_lt r.place 0 ≡ false = grind (arith, nat_tests) in count_cons (λ (q : Recorded). nat_lt q.place 0) r rs ∙ omega (arith, ap one_if past, none rs)
sums_below rs (suc k) = ap (λ n. n + count_by (λ (r : Recorded). r.place == k) rs) (sums_below rs k) ∙ next rs
  where
    bit : (p : ℕ) → one_if (nat_lt p k) + one_if (p == k) ≡ one_if (nat_lt p (suc k))
    bit p = grind (arith, nat_tests)

    next : (rs : List Recorded) → count_by (λ (r : Recorded). nat_lt r.place k) rs + count_by (λ (r : Recorded). r.place == k) rs ≡ count_by (λ (r : Recorded). nat_lt r.place (suc k)) rs
    next [] = refl
    next (r ∷ rs) = omega (arith, bit r.place, next rs, count_cons (λ (q : Recorded). nat_lt q.place k) r rs, count_cons (λ (q : Recorded). q.place == k) r rs, count_cons (λ (q : Recorded). nat_lt q.place (suc k)) r rs)

below_length : (xs : List Entry) (n : ℕ) (x : Entry) → slice_get xs n ≡ Some x → n < length xs
below_length [] n x h = absurd (cc)
below_length (y ∷ ys) zero x h = omega arith
below_length (y ∷ ys) (suc n) x h = omega (arith, below_length ys n x h)

all_below : (journal : List Entry) (rs : List Recorded) → AllByRecursion (λ (r : Recorded). slice_get journal r.place ≡ Some r.entry) rs → count_by (λ (r : Recorded). nat_lt r.place (length journal)) rs ≡ length rs
all_below journal [] h = refl
all_below journal (r ∷ rs) h =
    let below = below_length journal r.place r.entry h.0 in
    let is : nat_lt r.place (length journal) ≡ true = grind (arith, nat_tests, below) in
    count_cons (λ (q : Recorded). nat_lt q.place (length journal)) r rs ∙ omega (arith, ap one_if is, all_below journal rs h.1)

-- a journal has as many entries as it has of
as_many : (rs : List Recorded) (journal : List Entry) → Merges rs journal → length journal ≡ length rs
as_many rs journal m = sym (sums_one (λ k. count_by (λ (r : Recorded). r.place == k) rs) (length journal) m.each) ∙ sums_below rs (length journal) ∙ all_below journal rs m.stand

-- WHAT STANDS AT EACH PLACE
-- each entry is put at its place
abbrev pub put_entries : List Recorded → List (Option Entry) → List (Option Entry)
put_entries [] places = places
put_entries (r ∷ rs) places = put_entries rs (set places r.place (Some r.entry))

-- the entries that are there
abbrev pub somes : List (Option Entry) → List Entry
somes [] = []
somes (Some x ∷ xs) = x ∷ somes xs
somes (None ∷ xs) = somes xs

placed_length : (rs : List Recorded) (places : List (Option Entry)) → length (put_entries rs places) ≡ length places
placed_length [] places = refl
placed_length (r ∷ rs) places = placed_length rs (set places r.place (Some r.entry)) ∙ length-set places r.place (Some r.entry)

get_there : (xs : List Entry) (n : ℕ) → n < length xs → (x : Entry) × (slice_get xs n ≡ Some x)
get_there [] n below = absurd (omega arith)
get_there (y ∷ ys) zero below = (y, refl)
get_there (y ∷ ys) (suc n) below = get_there ys n (omega (arith, below))

get_mapped : (xs : List Entry) (n : ℕ) (x : Entry) (d : Option Entry) → slice_get xs n ≡ Some x → get_or (map Some xs) n d ≡ Some x
get_mapped [] n x d h = absurd (cc)
get_mapped (y ∷ ys) zero x d h = h
get_mapped (y ∷ ys) (suc n) x d h = get_mapped ys n x d h

placed_at : (journal : List Entry) (rs : List Recorded) (places : List (Option Entry)) (m : ℕ) (x : Entry) (d : Option Entry) → slice_get journal m ≡ Some x → m < length places
    → AllByRecursion (λ (r : Recorded). slice_get journal r.place ≡ Some r.entry) rs → (1 ≤ count_by (λ (r : Recorded). r.place == m) rs) ⊎ (get_or places m d ≡ Some x) → get_or (put_entries rs places) m d ≡ Some x
placed_at journal [] places m x d is below stand (inl named) = absurd (omega (arith, named))
placed_at journal [] places m x d is below stand (inr there) = there
placed_at journal (r ∷ rs) places m x d is below stand named = by_place (cases_eq r.place m)
    (λ new. placed_at journal rs (set places r.place (Some r.entry)) m x d is (omega (arith, below, length-set places r.place (Some r.entry))) stand.1 new)
  where
    after : List (Option Entry)
    after = set places r.place (Some r.entry)

    by_place : (r.place ≡ m) ⊎ (r.place ≢ m) → ((1 ≤ count_by (λ (q : Recorded). q.place == m) rs) ⊎ (get_or after m d ≡ Some x) → get_or (put_entries rs after) m d ≡ Some x) → get_or (put_entries rs after) m d ≡ Some x
    by_place (inl here) go = go (inr (ap (λ k. get_or (set places k (Some r.entry)) m d) here ∙ get_or-set_same places m (Some r.entry) d below ∙ sym stand.0 ∙ ap (slice_get journal) here ∙ is))
    by_place (inr other) go = go (still named)
      where
        still : (1 ≤ count_by (λ (q : Recorded). q.place == m) (r ∷ rs)) ⊎ (get_or places m d ≡ Some x) → (1 ≤ count_by (λ (q : Recorded). q.place == m) rs) ⊎ (get_or after m d ≡ Some x)
        still (inl named) = let off : (r.place == m) ≡ false = grind (arith, nat_tests, other) in inl (omega (arith, named, ap one_if off, count_cons (λ (q : Recorded). q.place == m) r rs))
        still (inr there) = inr (get_or-set_other places r.place m (Some r.entry) d (λ e. other (sym e)) ∙ there)

somes_map : (xs : List Entry) → somes (map Some xs) ≡ xs
somes_map [] = refl
somes_map (x ∷ xs) = ap (λ ys. x ∷ ys) (somes_map xs)

map_length : (xs : List Entry) → length (map Some xs) ≡ length xs
map_length [] = refl
map_length (x ∷ xs) = ap suc (map_length xs)

entries_placed : (rs : List Recorded) (journal : List Entry) → Merges rs journal → put_entries rs (replicate (length rs) None) ≡ map Some journal
entries_placed rs journal m = same_lists (put_entries rs empty) (map Some journal) size each
  where
    empty : List (Option Entry)
    empty = replicate (length rs) None

    size : length (put_entries rs empty) ≡ length (map Some journal)
    size = placed_length rs empty ∙ length-replicate (length rs) None ∙ sym (as_many rs journal m) ∙ sym (map_length journal)

    each : (k : ℕ) (d : Option Entry) → k < length (put_entries rs empty) → get_or (put_entries rs empty) k d ≡ get_or (map Some journal) k d
    each k d below =
        let long : k < length journal = omega (arith, below, size, map_length journal) in
        let there = get_there journal k long in
        placed_at journal rs empty k there.0 d there.1 (omega (arith, below, placed_length rs empty)) m.stand (inl (omega (arith, m.each k long))) ∙ sym (get_mapped journal k there.0 d there.1)

pub places_below : (rs : List Recorded) (journal : List Entry) → Merges rs journal → AllByRecursion (λ (r : Recorded). r.place < length rs) rs
places_below rs journal m = all rs m.stand
  where
    all : (qs : List Recorded) → AllByRecursion (λ (r : Recorded). slice_get journal r.place ≡ Some r.entry) qs → AllByRecursion (λ (r : Recorded). r.place < length rs) qs
    all [] h = tt
    all (q ∷ qs) h = (omega (arith, below_length journal q.place q.entry h.0, as_many rs journal m), all qs h.1)

-- WHAT IS MADE OF THEM
pub told_below : (rs qs : List Recorded) → qs ≡ rs → TellsSomeRun rs → AllByRecursion (λ (r : Recorded). r.place < length qs) qs
told_below rs qs is told = subst (λ xs. AllByRecursion (λ (r : Recorded). r.place < length xs) xs) (sym is) (places_below rs told.tells.journal told.tells.merges)

-- the entry that is put at a place
abbrev pub entry_of : {V : Type 0} → ℕ × EntryRow V → Recorded
entry_of x = record { place = x.0; entry = x.1.entry }

drops_entries : (V : Type 0) (ds : List Dropping) → map (entry_of {V = V}) (map drop_row ds) ≡ map drop_of ds
drops_entries V [] = refl
drops_entries V (d ∷ ds) = ap (λ rs. drop_of d ∷ rs) (drops_entries V ds)

-- the entries that lie at the places
abbrev pub shown : {V : Type 0} → List (Option (EntryRow V)) → List (Option Entry)
shown [] = []
shown (None ∷ fs) = None ∷ shown fs
shown (Some f ∷ fs) = Some f.entry ∷ shown fs

shown_none : (V : Type 0) (n : ℕ) → shown {V = V} (replicate n None) ≡ replicate n None
shown_none V zero = refl
shown_none V (suc n) = ap (λ xs. None ∷ xs) (shown_none V n)

module _ {V : Type 0} where
  row_entries : (fate : Fate V) → map entry_of (fate_rows fate) ≡ entries_of fate
  row_entries (Ended e) = refl
  row_entries (Faulted f) = refl
  row_entries (Dropped d) = refl
  row_entries (AllDropped drops) = drops_entries V (reverse drops.items)

  all_entries : (fates : List (Fate V)) → map entry_of (all_rows fates) ≡ entries_told fates
  all_entries [] = refl
  all_entries (fate ∷ fates) = map-append entry_of (fate_rows fate) (all_rows fates) ∙ (λ i. row_entries fate i ++ all_entries fates i)

  -- the places of the entries are those of what is put
  rows_below : (n : ℕ) (xs : List (ℕ × EntryRow V)) → AllByRecursion (λ (r : Recorded). r.place < n) (map entry_of xs) → AllByRecursion (λ x. x.0 < n) xs
  rows_below n [] h = tt
  rows_below n (x ∷ xs) h = (h.0, rows_below n xs h.1)

  pub all_rows_below : (n : ℕ) (fates : List (Fate V)) → AllByRecursion (λ (r : Recorded). r.place < n) (entries_told fates) → AllByRecursion (λ x. x.0 < n) (all_rows fates)
  all_rows_below n fates h = rows_below n (all_rows fates) (subst (AllByRecursion (λ (r : Recorded). r.place < n)) (sym (all_entries fates)) h)

  shown_set : (fs : List (Option (EntryRow V))) (n : ℕ) (f : EntryRow V) → shown (set fs n (Some f)) ≡ set (shown fs) n (Some f.entry)
  shown_set [] n f = refl
  shown_set (None ∷ fs) zero f = refl
  shown_set (Some g ∷ fs) zero f = refl
  shown_set (None ∷ fs) (suc n) f = ap (λ xs. None ∷ xs) (shown_set fs n f)
  shown_set (Some g ∷ fs) (suc n) f = ap (λ xs. Some g.entry ∷ xs) (shown_set fs n f)

  shown_placed : (xs : List (ℕ × EntryRow V)) (fs : List (Option (EntryRow V))) → shown (placed xs fs) ≡ put_entries (map entry_of xs) (shown fs)
  shown_placed [] fs = refl
  shown_placed (x ∷ xs) fs = shown_placed xs (set fs x.0 (Some x.1)) ∙ ap (put_entries (map entry_of xs)) (shown_set fs x.0 x.1)

  journal_shown : (fs : List (Option (EntryRow V))) → journal_in fs ≡ somes (shown fs)
  journal_shown [] = refl
  journal_shown (None ∷ fs) = journal_shown fs
  journal_shown (Some f ∷ fs) = ap (λ xs. f.entry ∷ xs) (journal_shown fs)

  module _ (fates : List (Fate V)) where
    -- where all entries are put
    abbrev pub places_of : List (Option (EntryRow V))
    places_of = placed (all_rows fates) (replicate (length (entries_told fates)) None)

    pub shown_all : (journal : List Entry) → Merges (entries_told fates) journal → shown places_of ≡ map Some journal
    shown_all journal m = let none : List (Option (EntryRow V)) = replicate (length (entries_told fates)) None in
        shown_placed (all_rows fates) none ∙ (λ i. put_entries (all_entries fates i) (shown_none V (length (entries_told fates)) i)) ∙ entries_placed (entries_told fates) journal m

    journal_of_all : (journal : List Entry) → Merges (entries_told fates) journal → journal_in places_of ≡ journal
    journal_of_all journal m = journal_shown places_of ∙ ap somes (shown_all journal m) ∙ somes_map journal

    pub all_merge : (made : List Entry) → made ≡ journal_in places_of → TellsSomeRun (entries_told fates) → Merges (entries_told fates) made
    all_merge made is told = subst (Merges (entries_told fates)) (sym (is ∙ journal_of_all told.tells.journal told.tells.merges)) told.tells.merges

    pub all_finished : (made : List Entry) → made ≡ journal_in places_of → IsRunTold fates made
    all_finished made is = λ net limit tells. subst (λ j. ShapeLegal net limit j × MeetsDataRule net j × Complete net limit j) (sym (is ∙ journal_of_all tells.journal tells.merges)) (tells.legal, tells.meets, tells.complete)

  -- MANY AT ONCE
  pub placed_both : (xs ys : List (ℕ × EntryRow V)) (fs : List (Option (EntryRow V))) → placed (xs ++ ys) fs ≡ placed ys (placed xs fs)
  placed_both [] ys fs = refl
  placed_both (x ∷ xs) ys fs = placed_both xs ys (set fs x.0 (Some x.1))

  pub placed_size : (xs : List (ℕ × EntryRow V)) (fs : List (Option (EntryRow V))) → length (placed xs fs) ≡ length fs
  placed_size [] fs = refl
  placed_size (x ∷ xs) fs = placed_size xs (set fs x.0 (Some x.1)) ∙ length-set fs x.0 (Some x.1)

  pub below_both : (n : ℕ) (xs ys : List (ℕ × EntryRow V)) → AllByRecursion (λ x. x.0 < n) (xs ++ ys) → AllByRecursion (λ x. x.0 < n) xs × AllByRecursion (λ x. x.0 < n) ys
  below_both n [] ys h = (tt, h)
  below_both n (x ∷ xs) ys h = let more = below_both n xs ys h.1 in ((h.0, more.0), more.1)

  pub record NextDrop (fs new : List (Option (EntryRow V))) (left all : List Dropping) (d : Dropping) : Type 0 where
    pub here : d.place < length fs
    pub rest : placed (map drop_row (reverse left)) new ≡ placed (map drop_row (reverse all)) fs
    pub below : AllByRecursion (λ (x : ℕ × EntryRow V). x.0 < length new) (map drop_row (reverse left))

  pub next_drop : (fs new : List (Option (EntryRow V))) (left all : List Dropping) (d : Dropping) → all ≡ left ++ d ∷ [] → new ≡ placed (drop_row d ∷ []) fs → AllByRecursion (λ (x : ℕ × EntryRow V). x.0 < length fs) (map drop_row (reverse all)) → NextDrop fs new left all d
  next_drop fs new left all d is put below =
      let order : reverse all ≡ d ∷ reverse left = ap reverse is ∙ reverse-append left (d ∷ []) in
      let each = subst (λ ds. AllByRecursion (λ (x : ℕ × EntryRow V). x.0 < length fs) (map drop_row ds)) order below in
      record {
        here = each.0;
        rest = ap (placed (map drop_row (reverse left))) put ∙ ap (λ ds. placed (map drop_row ds) fs) (sym order);
        below = subst (λ n. AllByRecursion (λ (x : ℕ × EntryRow V). x.0 < n) (map drop_row (reverse left))) (sym (ap length put ∙ placed_size (drop_row d ∷ []) fs)) each.1;
      }
