-- The counts of a journal after one entry more.
use Rattle.std.proofs.Common.{◌≡◌, ◌≢◌, ◌⊎◌, inl, inr, ℕ, zero, suc, ◌+◌, ◌<◌, ◌≤◌, ◌^◌, Bool, true, false, not, ◌&&◌, cond, eqb, List, [], ◌∷◌, ◌++◌, length, Option, Some, None, sym, refl, ap, ◌∙◌, subst, arith, get_or, set, length-set, get_or-set_same, get_or-set_other, is_some, IsTrue, map}
use Rattle.std.specs.Prelude.{count_by, ◌==◌, slice_get, replicate, MatchOption, IsSomeAnd}
use Rattle.std.specs.Option.{option_and_then, option_map_or}
use Rattle.std.specs.List.{enumerate_from}
use Rattle.std.proofs.lemmas.List.FromFn.{length-enumerate_from}
use Rattle.std.proofs.lemmas.Bool.{cases_eq, cases_lt, false≢true, eqb-true}
use Rattle.std.proofs.lemmas.Bool.Decides.{nat_tests}
use Rattle.std.proofs.lemmas.List.{length_push}
use Rattle.std.proofs.lemmas.List.Sums.{count_by-le-length}
use Rattle.std.proofs.lemmas.Option.{slice_get_past, slice_get_within, slice_get-get_or, get_or_from_slice_get}
use Rattle.task_graph.specs.NetRows.{NetRows}
use Rattle.task_graph.specs.Net.{IsSource, is_weak, out_edges, strong_in}
use Rattle.task_graph.specs.declared.net.TaskRow.{TaskRow}
use Rattle.journal_rules.specs.ChoiceRule.{ChoiceRule, GivesFit, InnerFits}
use Rattle.task_graph.specs.declared.net.EdgeRow.{EdgeRow}
use Rattle.journal_rules.specs.declared.entry.Cause.{Cause}
use Rattle.journal_rules.specs.declared.entry.Part.{Part}
use Rattle.journal_rules.specs.declared.entry.Why.{Why}
use Rattle.journal_rules.specs.declared.entry.Why.TheVariants.{OverRelease}
use Rattle.journal_rules.specs.declared.entry.DropWhy.{DropWhy}
use Rattle.journal_rules.specs.declared.entry.Entry.{Entry}
use Rattle.journal_rules.specs.declared.entry.Entry.TheVariants.{Start, End, Fault, Drop}
use Rattle.journal_rules.specs.declared.counts.Counts.{Counts}
use Rattle.journal_rules.specs.Counts.{given, first_tokens, gives_edge, used, used_weak, used_source, uses, uses_any, is_strong, is_source, is_weak_at, starts, started, start_at, is_open, closes, is_start, is_fault, NoneOpen}
use Rattle.journal_rules.specs.SemaphoreRule.{takes, puts, gives_back, starts_at, IsOverRelease, OverReleaseRule}
use Rattle.journal_rules.specs.HaltLimitStuckRule.{is_stuck}
use Rattle.journal_rules.specs.Complete.{Complete, is_limited, least}
use Rattle.journal_rules.specs.Entries.{EachAfterThese}
use Rattle.journal_rules.specs.ShapeLegal.{ShapeLegal, MayFollow}
use Rattle.journal_rules.specs.inside.Reached.{IsReached, ClosesTask}
use Rattle.journal_rules.specs.inside.Releases.{CountsReleases, NoneLeft}
use Rattle.journal_rules.specs.inside.Units.{CountsUnits}
use Rattle.journal_rules.specs.inside.Counted.{CountsOpen, IsCounted, CanGrow}
use Rattle.journal_rules.proofs.Snoc.{count_by_push, is_open_push_below, start_at_push_last}
use Rattle.journal_rules.proofs.Tallying.{count_by_push_no, and_false, and_true}
use Rattle.journal_rules.proofs.UnitLaws.{unclosed, start_below, units_drop}
use Rattle.journal_rules.proofs.ReleaseLaws.{unused_counts, fault_no_use}
use Rattle.journal_rules.proofs.Reaching.{open_stands, each_below, at_below}
use Rattle.journal_rules.proofs.Flags.{all_clear, none_set}

abbrev one_if : Bool → ℕ
one_if b = cond b 1 0

-- whether a Start is open after one entry more, but at the entry itself
is_open_push_other : (h : List Entry) (x : Entry) (n : ℕ) → n ≢ length h → is_open (h ++ x ∷ []) n ≡ is_open h n && not (closes n x)
is_open_push_other h x n other = by_case (cases_lt n (length h))
  where
    by_case : (n < length h) ⊎ (length h ≤ n) → is_open (h ++ x ∷ []) n ≡ is_open h n && not (closes n x)
    by_case (inl below) = is_open_push_below h x n below
    by_case (inr past) =
        let gone : slice_get (h ++ x ∷ []) n ≡ None = slice_get_past (h ++ x ∷ []) n (omega (arith, length_push h x)) in
        let gone_before : slice_get h n ≡ None = slice_get_past h n past in
        ap (λ o. is_some (option_and_then started o) && (count_by (closes n) (h ++ x ∷ []) == 0)) gone
        ∙ sym (ap (λ o. (is_some (option_and_then started o) && (count_by (closes n) h == 0)) && not (closes n x)) gone_before)

-- and at the entry itself
pub is_open_push_last : (net : NetRows) (limit : ℕ) (h : List Entry) (x : Entry) → IsReached net limit h → closes (length h) x ≡ false → is_open (h ++ x ∷ []) (length h) ≡ is_start x
is_open_push_last net limit h x reached not_itself =
    let none : count_by (closes (length h)) (h ++ x ∷ []) ≡ 0 = count_by_push_no (closes (length h)) h x not_itself ∙ unclosed net limit (length h) h reached (omega arith) in
    ap (λ o. is_some o && (count_by (closes (length h)) (h ++ x ∷ []) == 0)) (start_at_push_last h x) ∙ ap (λ k. is_some (started x) && (k == 0)) none ∙ and_true (is_start x)

-- the flags after a Start
pub open_start : (net : NetRows) (limit : ℕ) (h : List Entry) (flags : List Bool) (t : ℕ) (cause : Cause) (ins : List Part) → IsReached net limit h → CountsOpen h flags → length h < length flags
    → CountsOpen (h ++ Start t cause ins ∷ []) (set flags (length h) true)
open_start net limit h flags t cause ins reached counts room = record {
  room = omega (arith, length_push h x, length-set flags (length h) true);
  each = λ n d below. by_case n d (cases_eq n (length h)) below;
}
  where
    x : Entry
    x = Start t cause ins

    by_case : (n : ℕ) (d : Bool) → (n ≡ length h) ⊎ (n ≢ length h) → n < length (set flags (length h) true) → get_or (set flags (length h) true) n d ≡ is_open (h ++ x ∷ []) n
    by_case n d (inl here) below = subst (λ k. get_or (set flags (length h) true) k d ≡ is_open (h ++ x ∷ []) k) (sym here) (get_or-set_same flags (length h) true d room ∙ sym (is_open_push_last net limit h x reached refl))
    by_case n d (inr other) below =
        get_or-set_other flags (length h) n true d other ∙ counts.each n d (omega (arith, length-set flags (length h) true)) ∙ sym (is_open_push_other h x n other ∙ and_true (is_open h n))

-- after an entry that closes a start
pub open_close : (net : NetRows) (limit : ℕ) (h : List Entry) (flags : List Bool) (p t : ℕ) (x : Entry) → IsReached net limit h → CountsOpen h flags → length h < length flags → ClosesTask h p t → started x ≡ None → ((n : ℕ) → closes n x ≡ eqb p n)
    → CountsOpen (h ++ x ∷ []) (set flags p false)
open_close net limit h flags p t x reached counts room closed no_start closes_it = record {
  room = omega (arith, length_push h x, length-set flags p false);
  each = λ n d below. by_case n d (cases_eq n p) (cases_eq n (length h)) below;
}
  where
    p_below : p < length h
    p_below = start_below h p t closed.started

    by_case : (n : ℕ) (d : Bool) → (n ≡ p) ⊎ (n ≢ p) → (n ≡ length h) ⊎ (n ≢ length h) → n < length (set flags p false) → get_or (set flags p false) n d ≡ is_open (h ++ x ∷ []) n
    by_case n d (inl here) any below =
        let hit : eqb p p ≡ true = grind (arith, nat_tests) in
        subst (λ k. get_or (set flags p false) k d ≡ is_open (h ++ x ∷ []) k) (sym here)
        (get_or-set_same flags p false d (omega (arith, p_below, room)) ∙ sym (is_open_push_below h x p p_below ∙ ap (λ b. is_open h p && not b) (closes_it p ∙ hit) ∙ and_false (is_open h p)))
    by_case n d (inr other) (inl last) below =
        let miss : eqb p (length h) ≡ false = grind (arith, nat_tests) in
        let past : is_open h (length h) ≡ false = ap (λ o. is_some (option_and_then started o) && (count_by (closes (length h)) h == 0)) (slice_get_past h (length h) (omega arith)) in
        get_or-set_other flags p n false d other ∙ counts.each n d (omega (arith, length-set flags p false)) ∙ ap (is_open h) last ∙ past
        ∙ sym (ap (is_open (h ++ x ∷ [])) last ∙ is_open_push_last net limit h x reached (closes_it (length h) ∙ miss) ∙ ap is_some no_start)
    by_case n d (inr other) (inr before) below =
        let miss : eqb p n ≡ false = grind (arith, nat_tests) in
        get_or-set_other flags p n false d other ∙ counts.each n d (omega (arith, length-set flags p false))
        ∙ sym (is_open_push_other h x n before ∙ ap (λ b. is_open h n && not b) (closes_it n ∙ miss) ∙ and_true (is_open h n))

-- after one that neither starts nor closes
pub open_same : (net : NetRows) (limit : ℕ) (h : List Entry) (flags : List Bool) (t : ℕ) (cause : Cause) (why : DropWhy) → IsReached net limit h → CountsOpen h flags → length h < length flags → CountsOpen (h ++ Drop t cause why ∷ []) flags
open_same net limit h flags t cause why reached counts room = record { room = omega (arith, length_push h x); each = λ n d below. counts.each n d below ∙ sym (by_case n (cases_eq n (length h))) }
  where
    x : Entry
    x = Drop t cause why

    by_case : (n : ℕ) → (n ≡ length h) ⊎ (n ≢ length h) → is_open (h ++ x ∷ []) n ≡ is_open h n
    by_case n (inl last) =
        let past : is_open h (length h) ≡ false = ap (λ o. is_some (option_and_then started o) && (count_by (closes (length h)) h == 0)) (slice_get_past h (length h) (omega arith)) in
        subst (λ k. is_open (h ++ x ∷ []) k ≡ is_open h k) (sym last) (is_open_push_last net limit h x reached refl ∙ sym past)
    by_case n (inr other) = is_open_push_other h x n other ∙ and_true (is_open h n)

-- whether any entry passes, after one more
any_push : (p : Entry → Bool) (h : List Entry) (x : Entry) (flag new : Bool) → flag ≡ not (count_by p h == 0) → new ≡ cond (p x) true flag → new ≡ not (count_by p (h ++ x ∷ []) == 0)
any_push p h x flag new was is = is ∙ by_test (p x) refl
  where
    by_test : (b : Bool) → p x ≡ b → cond b true flag ≡ not (count_by p (h ++ x ∷ []) == 0)
    by_test true passes = let some : eqb (count_by p (h ++ x ∷ [])) 0 ≡ false = let e = count_by_push p h x ∙ ap (λ b. count_by p h + one_if b) passes in grind (arith, nat_tests) in sym (ap not some)
    by_test false fails = was ∙ ap (λ n. not (n == 0)) (sym (count_by_push_no p h x fails))

-- the counts after a Start
pub counted_start : (net : NetRows) (limit : ℕ) (h : List Entry) (t : ℕ) (cause : Cause) (ins : List Part) (old new : Counts) → IsReached net limit h → IsCounted net h old → length h < length old.open_starts
    → CountsReleases net (h ++ Start t cause ins ∷ []) new.releases → CountsUnits net (h ++ Start t cause ins ∷ []) new.units.counts.items → new.open_starts ≡ set old.open_starts (length h) true
    → new.starts ≡ old.starts + 1 → new.faults ≡ old.faults → new.is_stuck ≡ old.is_stuck → new.is_limited ≡ old.is_limited → IsCounted net (h ++ Start t cause ins ∷ []) new
counted_start net limit h t cause ins old new reached counted room releases units opened starts_are faults_are stuck_is limited_is =
    let x = Start t cause ins in
    record {
      releases = releases;
      units = units;
      opened = subst (CountsOpen (h ++ x ∷ [])) (sym opened) (open_start net limit h old.open_starts t cause ins reached counted.opened room);
      starts = omega (arith, counted.starts, count_by_push is_start h x);
      faults = omega (arith, counted.faults, count_by_push is_fault h x);
      stuck = any_push is_stuck h x old.is_stuck new.is_stuck counted.stuck stuck_is;
      limited = any_push is_limited h x old.is_limited new.is_limited counted.limited limited_is;
    }

-- after an End
pub counted_end : (net : NetRows) (limit : ℕ) (h : List Entry) (p t : ℕ) (gives : List ℕ) (inner : Bool) (old new : Counts) → IsReached net limit h → IsCounted net h old → length h < length old.open_starts → ClosesTask h p t
    → CountsReleases net (h ++ End p gives inner ∷ []) new.releases → CountsUnits net (h ++ End p gives inner ∷ []) new.units.counts.items → new.open_starts ≡ set old.open_starts p false
    → new.starts ≡ old.starts → new.faults ≡ old.faults → new.is_stuck ≡ old.is_stuck → new.is_limited ≡ old.is_limited → IsCounted net (h ++ End p gives inner ∷ []) new
counted_end net limit h p t gives inner old new reached counted room closed releases units opened starts_are faults_are stuck_is limited_is =
    let x = End p gives inner in
    record {
      releases = releases;
      units = units;
      opened = subst (CountsOpen (h ++ x ∷ [])) (sym opened) (open_close net limit h old.open_starts p t x reached counted.opened room closed refl (λ n. refl));
      starts = omega (arith, counted.starts, count_by_push is_start h x);
      faults = omega (arith, counted.faults, count_by_push is_fault h x);
      stuck = any_push is_stuck h x old.is_stuck new.is_stuck counted.stuck stuck_is;
      limited = any_push is_limited h x old.is_limited new.is_limited counted.limited limited_is;
    }

-- after a Fault
pub counted_fault : (net : NetRows) (limit : ℕ) (h : List Entry) (p t : ℕ) (why : Why) (old new : Counts) → IsReached net limit h → IsCounted net h old → length h < length old.open_starts → ClosesTask h p t
    → new.releases ≡ old.releases → CountsUnits net (h ++ Fault p why ∷ []) new.units.counts.items → new.open_starts ≡ set old.open_starts p false
    → new.starts ≡ old.starts → new.faults ≡ old.faults + 1 → new.is_stuck ≡ old.is_stuck → new.is_limited ≡ old.is_limited → IsCounted net (h ++ Fault p why ∷ []) new
counted_fault net limit h p t why old new reached counted room closed releases units opened starts_are faults_are stuck_is limited_is =
    let x = Fault p why in
    record {
      releases = subst (CountsReleases net (h ++ x ∷ [])) (sym releases) (unused_counts net h x old.releases (fault_no_use p why) (λ e. refl) counted.releases);
      units = units;
      opened = subst (CountsOpen (h ++ x ∷ [])) (sym opened) (open_close net limit h old.open_starts p t x reached counted.opened room closed refl (λ n. refl));
      starts = omega (arith, counted.starts, count_by_push is_start h x);
      faults = omega (arith, counted.faults, count_by_push is_fault h x);
      stuck = any_push is_stuck h x old.is_stuck new.is_stuck counted.stuck stuck_is;
      limited = any_push is_limited h x old.is_limited new.is_limited counted.limited limited_is;
    }

-- and after a Drop
pub counted_drop : (net : NetRows) (limit : ℕ) (h : List Entry) (t : ℕ) (cause : Cause) (why : DropWhy) (old new : Counts) → IsReached net limit h → IsCounted net h old → length h < length old.open_starts
    → CountsReleases net (h ++ Drop t cause why ∷ []) new.releases → new.units ≡ old.units → new.open_starts ≡ old.open_starts
    → new.starts ≡ old.starts → new.faults ≡ old.faults → new.is_stuck ≡ cond (is_stuck (Drop t cause why)) true old.is_stuck → new.is_limited ≡ cond (is_limited (Drop t cause why)) true old.is_limited
    → IsCounted net (h ++ Drop t cause why ∷ []) new
counted_drop net limit h t cause why old new reached counted room releases units opened starts_are faults_are stuck_is limited_is =
    let x = Drop t cause why in
    record {
      releases = releases;
      units = subst (λ u. CountsUnits net (h ++ x ∷ []) u) (sym (ap (λ u. u.counts.items) units)) (units_drop net limit t h cause why old.units.counts.items reached counted.units);
      opened = subst (CountsOpen (h ++ x ∷ [])) (sym opened) (open_same net limit h old.open_starts t cause why reached counted.opened room);
      starts = omega (arith, counted.starts, count_by_push is_start h x);
      faults = omega (arith, counted.faults, count_by_push is_fault h x);
      stuck = any_push is_stuck h x old.is_stuck new.is_stuck counted.stuck stuck_is;
      limited = any_push is_limited h x old.is_limited new.is_limited counted.limited limited_is;
    }

-- no more Starts at places that pass than entries
starts_few : (test : ℕ → ℕ → Bool) (h : List Entry) → starts_at test h ≤ length h
starts_few test h = omega (arith, count_by-le-length (λ (p : ℕ × Entry). option_map_or (test p.0) (started p.1) false) (enumerate_from 0 h), length-enumerate_from 0 h)

abbrev first_of_row : EdgeRow → ℕ
first_of_row row = one_if row.start

first_few : (net : NetRows) (e : ℕ) → first_tokens net e ≤ 1
first_few net e = by_row (slice_get net.edges e)
  where
    by_start : (b : Bool) → one_if b ≤ 1
    by_start true = omega arith
    by_start false = omega arith

    by_row : (row : Option EdgeRow) → option_map_or first_of_row row 0 ≤ 1
    by_row None = omega arith
    by_row (Some row) = by_start row.start

-- the counts of a journal that memory can hold are far below what a number holds
pub can_grow : (net : NetRows) (h : List Entry) (counts : Counts) → IsCounted net h counts → length h < 2 ^ 61 → CanGrow net counts
can_grow net h counts c size = record {
  few = record {
    rounds = c.releases.rounds;
    given = λ k d below. omega (arith, c.releases.given.each k d (omega (arith, c.releases.given.len)), count_by-le-length (gives_edge k) h, first_few net k);
    weak_len = c.releases.weak.len;
    weak = λ k d below. omega (arith, c.releases.weak.each k d (omega (arith, c.releases.weak.len)), count_by-le-length (uses_any (is_weak_at k)) h);
    used_len = c.releases.used.len;
    used = λ k d below. omega (arith, c.releases.used.each k d (omega (arith, c.releases.used.len)), count_by-le-length (uses is_strong k) h);
    source_len = c.releases.sources.len;
    source = λ k d below. omega (arith, c.releases.sources.each k d (omega (arith, c.releases.sources.len)), count_by-le-length (uses is_source k) h);
  };
  units_len = c.units.len;
  small = λ s d below. let u = c.units.each s d (omega (arith, c.units.len)) in record {
    taken = omega (arith, u.taken, count_by-le-length (λ entry. option_map_or (takes net s) (started entry) false) h);
    back = omega (arith, u.back, count_by-le-length (gives_back net s h) h);
    putters = omega (arith, u.putters, starts_few (λ n t. puts net s t && not (takes net s t)) h);
    closed = omega (arith, u.closed, starts_few (λ n t. takes net s t && not (puts net s t) && not (count_by (closes n) h == 0)) h);
  };
  starts = omega (arith, c.starts, count_by-le-length is_start h);
  faults = omega (arith, c.faults, count_by-le-length is_fault h);
}

-- the counts of the empty journal
pub counted_empty : (net : NetRows) (counts : Counts) (room : ℕ) → CountsReleases net [] counts.releases → CountsUnits net [] counts.units.counts.items → counts.open_starts ≡ replicate room false
    → counts.starts ≡ 0 → counts.faults ≡ 0 → counts.is_stuck ≡ false → counts.is_limited ≡ false → IsCounted net [] counts
counted_empty net counts room releases units opened starts_are faults_are stuck_is limited_is = record {
  releases = releases;
  units = units;
  opened = subst (CountsOpen []) (sym opened) (record { room = omega arith; each = λ n d below. clear n room d below ∙ refl });
  starts = starts_are;
  faults = faults_are;
  stuck = stuck_is;
  limited = limited_is;
}
  where
    clear : (n m : ℕ) (d : Bool) → n < length (replicate m false) → get_or (replicate m false) n d ≡ false
    clear n zero d below = absurd (omega arith)
    clear zero (suc m) d below = refl
    clear (suc n) (suc m) d below = clear n m d (omega arith)

-- a flag that isn't set counts none
pub none_counted : (p : Entry → Bool) (h : List Entry) (flag : Bool) → flag ≡ not (count_by p h == 0) → flag ≡ false → count_by p h ≡ 0
none_counted p h flag is clear = by_test (count_by p h == 0) refl (sym is ∙ clear)
  where
    by_test : (b : Bool) → eqb (count_by p h) 0 ≡ b → not b ≡ false → count_by p h ≡ 0
    by_test true same any = eqb-true (count_by p h) 0 same
    by_test false other any = absurd (false≢true (sym any))

-- and one that is set counts some
pub some_counted : (p : Entry → Bool) (h : List Entry) (flag : Bool) → flag ≡ not (count_by p h == 0) → flag ≡ true → count_by p h ≢ 0
some_counted p h flag is set_it none = false≢true (ap (λ n. not (n == 0)) (sym none) ∙ sym is ∙ set_it)

-- a flag that is set stands for an open Start
pub open_is : (h : List Entry) (flags : List Bool) (p : ℕ) → CountsOpen h flags → slice_get flags p ≡ Some true → is_open h p ≡ true
open_is h flags p counts flag = sym (counts.each p true (slice_get_within flags p true flag)) ∙ get_or_from_slice_get flags p true true flag

pub open_flag : (h : List Entry) (flags : List Bool) (p : ℕ) → CountsOpen h flags → is_open h p ≡ true → slice_get flags p ≡ Some true
open_flag h flags p counts opened =
    let below : p < length flags = omega (arith, counts.room, open_stands h p opened) in
    slice_get-get_or flags p true below ∙ ap (λ b. Some b) (counts.each p true below ∙ opened)

-- an open Start is closed by nothing
open_unclosed : (g : List Entry) (n : ℕ) → is_open g n ≡ true → count_by (closes n) g ≡ 0
open_unclosed g n opened = by_parts (is_some (start_at g n)) (count_by (closes n) g == 0) refl opened
  where
    by_parts : (a b : Bool) → eqb (count_by (closes n) g) 0 ≡ b → a && b ≡ true → count_by (closes n) g ≡ 0
    by_parts true true same both = eqb-true (count_by (closes n) g) 0 same
    by_parts true false same both = absurd (false≢true both)
    by_parts false b same both = absurd (false≢true both)

-- each item of a journal meets its rule after some entries
each_at : {X : Type 0} (Rule : List X → X → Type 0) (before xs : List X) (n : ℕ) (x : X) → EachAfterThese Rule before xs → slice_get xs n ≡ Some x → (first : List X) × Rule first x
each_at Rule before [] n x each is = absurd (cc)
each_at Rule before (y ∷ ys) zero x each is = (before, subst (λ z. Rule before z) (let e : y ≡ x = cc in e) each.0)
each_at Rule before (y ∷ ys) (suc n) x each is = each_at Rule (before ++ y ∷ []) ys n x each.1 is

-- a Start that stands is of a task
pub start_in_range : (net : NetRows) (limit : ℕ) (h : List Entry) (n t : ℕ) → ShapeLegal net limit h → start_at h n ≡ Some t → t < length net.tasks
start_in_range net limit h n t legal is = by_item (slice_get h n) refl is
  where
    by_entry : (x : Entry) → (first : List Entry) × MayFollow net limit first x → started x ≡ Some t → t < length net.tasks
    by_entry (Start q cause ins) may same = let e : q ≡ t = cc in subst (λ k. k < length net.tasks) e may.1.in_range.0
    by_entry (End start gives inner) may same = absurd (cc)
    by_entry (Fault start why) may same = absurd (cc)
    by_entry (Drop q cause why) may same = absurd (cc)

    by_item : (o : Option Entry) → slice_get h n ≡ o → option_and_then started o ≡ Some t → t < length net.tasks
    by_item None none same = absurd (cc)
    by_item (Some x) some same = by_entry x (each_at (MayFollow net limit) [] h n x legal some) same

-- the task of an open Start
pub open_task_is : (net : NetRows) (limit : ℕ) (h : List Entry) (p : ℕ) (task : Option ℕ) → IsReached net limit h → is_open h p ≡ true → task ≡ start_at h p
    → MatchOption task (¬ IsTrue (is_open h p)) (λ t. (ClosesTask h p t × IsTrue (is_open h p)) × (t < length net.tasks))
open_task_is net limit h p None reached opened is = absurd (false≢true (ap (λ o. is_some o && (count_by (closes p) h == 0)) is ∙ opened))
open_task_is net limit h p (Some t) reached opened is = ((record { started = sym is; unclosed = open_unclosed h p opened }, opened), start_in_range net limit h p t reached.legal (sym is))

-- no Start is open where no flag is set
pub idle_is : (h : List Entry) (flags : List Bool) → CountsOpen h flags → (count_by (λ flag. flag) flags ≡ 0 → NoneOpen h) × (NoneOpen h → count_by (λ flag. flag) flags ≡ 0)
idle_is h flags counts = (
  λ none. each_below (λ n. is_open h n ≡ false) (length h) (λ n below. sym (counts.each n false (omega (arith, counts.room))) ∙ all_clear flags none n false (omega (arith, counts.room))),
  λ closed. none_set flags (λ n d below. counts.each n d below ∙ by_case closed n (cases_lt n (length h))),
)
  where
    by_case : NoneOpen h → (n : ℕ) → (n < length h) ⊎ (length h ≤ n) → is_open h n ≡ false
    by_case closed n (inl below) = at_below (λ k. is_open h k ≡ false) (length h) closed n below
    by_case closed n (inr past) = ap (λ o. is_some (option_and_then started o) && (count_by (closes n) h == 0)) (slice_get_past h n past)

-- when a run is finished
pub complete_is : (net : NetRows) (limit : ℕ) (h : List Entry) → NoneOpen h → NoneLeft net h → (count_by is_limited h ≢ 0 → starts h ≡ limit) → Complete net limit h
complete_is net limit h closed left limited = record {
  none_open = closed;
  sources = each_below (λ t. IsSource net t → used_source t h ≡ 1) (length net.tasks) (λ t below. (left.tasks t below).0);
  weak = each_below (λ e. IsTrue (is_weak net e) → used_weak e h ≡ given net e h) (length net.edges) left.edges;
  strong = each_below (λ t. strong_in net t ≢ [] → used t h ≡ least (map (λ e. given net e h) (strong_in net t))) (length net.tasks) (λ t below. (left.tasks t below).1);
  limited = limited;
}

pub left_of : (net : NetRows) (limit : ℕ) (h : List Entry) → Complete net limit h → NoneLeft net h
left_of net limit h complete = record {
  tasks = λ t below. (
    at_below (λ k. IsSource net k → used_source k h ≡ 1) (length net.tasks) complete.sources t below,
    at_below (λ k. strong_in net k ≢ [] → used k h ≡ least (map (λ e. given net e h) (strong_in net k))) (length net.tasks) complete.strong t below,
  );
  edges = λ e below. at_below (λ k. IsTrue (is_weak net k) → used_weak k h ≡ given net k h) (length net.edges) complete.weak e below;
}

-- a Fault of a unit tells a true one
pub over_rule : (net : NetRows) (h : List Entry) (p t s : ℕ) (why : Why) (answer : Bool) → start_at h p ≡ Some t → why ≡ OverRelease s → (IsTrue answer → IsOverRelease net h s p t) × (IsOverRelease net h s p t → IsTrue answer)
    → (IsTrue answer → OverReleaseRule net h p why) × (OverReleaseRule net h p why → IsTrue answer)
over_rule net h p t s why answer is why_is law =
    subst (λ (w : Why). (IsTrue answer → OverReleaseRule net h p w) × (OverReleaseRule net h p w → IsTrue answer)) (sym why_is)
    (subst (λ (o : Option ℕ). (IsTrue answer → IsSomeAnd o (IsOverRelease net h s p)) × (IsSomeAnd o (IsOverRelease net h s p) → IsTrue answer)) (sym is) law)

-- an End fits the task of the Start that it closes
pub choice_rule : (net : NetRows) (h : List Entry) (p t : ℕ) (gives : List ℕ) (inner : Bool) → start_at h p ≡ Some t → IsSomeAnd (slice_get net.tasks t) (λ (row : TaskRow). GivesFit row.shape (out_edges net t) gives × InnerFits row.shape inner)
    → ChoiceRule net h (End p gives inner)
choice_rule net h p t gives inner is fits =
    subst (λ (o : Option ℕ). IsSomeAnd o (λ q. IsSomeAnd (slice_get net.tasks q) (λ (row : TaskRow). GivesFit row.shape (out_edges net q) gives × InnerFits row.shape inner))) (sym is) fits

-- the starts reach the limit, if a release was dropped there
pub limit_is : (h : List Entry) (limit made : ℕ) (flag : Bool) → flag ≡ not (count_by is_limited h == 0) → made ≡ starts h
    → ((flag ≡ true → made ≡ limit) → count_by is_limited h ≢ 0 → starts h ≡ limit) × ((count_by is_limited h ≢ 0 → starts h ≡ limit) → flag ≡ true → made ≡ limit)
limit_is h limit made flag is made_is = (
  λ rule some. sym made_is ∙ rule (set_where flag refl some),
  λ rule set_it. made_is ∙ rule (some_counted is_limited h flag is set_it),
)
  where
    set_where : (b : Bool) → flag ≡ b → count_by is_limited h ≢ 0 → flag ≡ true
    set_where true same some = same
    set_where false same some = absurd (some (none_counted is_limited h flag is same))

-- the place of an entry to come has no open Start
pub next_closed : (h : List Entry) (flags : List Bool) (place : ℕ) → CountsOpen h flags → length h < length flags → place ≡ length h → slice_get flags place ≡ Some false
next_closed h flags place counts room here =
    let past : is_open h place ≡ false = ap (λ o. is_some (option_and_then started o) && (count_by (closes place) h == 0)) (slice_get_past h place (omega arith)) in
    slice_get-get_or flags place false (omega arith) ∙ ap (λ b. Some b) (counts.each place false (omega arith) ∙ past)
