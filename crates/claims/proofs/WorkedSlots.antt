-- What the words of slots say, computed on small queues.
use Rattle.std.proofs.Common.{◌≡◌, ℕ, ◌+◌, ◌≤◌, Bool, true, false, List, [], ◌∷◌, length, refl, ap, arith}
use Rattle.std.specs.Prelude.{slice_get}
use Rattle.std.specs.Option.{option_map_or}
use Rattle.join_words.specs.declared.ins.Given.{Given}
use Rattle.join_words.specs.declared.ins.Given.TheVariants.{First as FirstToken, Nothing as NoValue}
use Rattle.std.proofs.lemmas.Bool.{false≢true}
use Rattle.task_graph.specs.NetRows.{NetRows}
use Rattle.journal_rules.specs.declared.entry.Entry.{Entry}
use Rattle.journal_rules.specs.declared.entry.Part.{Part}
use Rattle.journal_rules.specs.declared.entry.Part.TheVariants.{From, First, Nothing}
use Rattle.journal_rules.specs.Counts.{gives_edge}
use Rattle.table_steps.specs.declared.view.Note.{Note}
use Rattle.table_steps.specs.declared.view.Note.TheVariants.{Queued, Lies}
use Rattle.table_steps.specs.declared.view.Lot.TheVariants.{Putting}
use Rattle.table_steps.specs.inside.Parcels.{part_times, DataPart}
use Rattle.table_steps.specs.inside.SlotKinds.{oldest, later, MayPutBack, MayTakeBack, IsOldest}
use Rattle.table_steps.specs.declared.parcels.Parcel.TheVariants.{Bare, Linked}
use Rattle.table_steps.specs.ParcelForms.{parcel_in, is_bare, MayLieBehind, MayBeBare}
use Rattle.table_steps.specs.Giving.{one_if}

abbrev place : Part → ℕ
place (From n) = n
place First = 0
place Nothing = 0

-- Three parcels lie in the slot of edge 0, the oldest that of the End at place 3.
abbrev lie : List Part
lie = From 3 ∷ From 5 ∷ From 7 ∷ []

oldest_first : (oldest lie ≡ From 3) × (later lie ≡ From 5 ∷ From 7 ∷ [])
oldest_first = (refl, refl)

newest_first : oldest lie ≡ From 7 → ⊥
newest_first is = omega (arith, ap place is)

-- the token with which an edge began goes before what ends put there
first_token_first : oldest (First ∷ From 3 ∷ []) ≡ First
first_token_first = refl

none_there : (oldest [] ≡ Nothing) × (later [] ≡ [])
none_there = (refl, refl)

-- A seat that took it gives it back without the oldest parcel, and with all others.
module _ (notes : List Note) where
  cut_short : MayTakeBack (λ (qs : List Part). qs) 0 (Queued 0 lie ∷ notes, (0, From 7 ∷ []) ∷ []) → ⊥
  cut_short may = omega (arith, ap length may.laid.1)

  left_as_it_was : MayTakeBack (λ (qs : List Part). qs) 0 (Queued 0 lie ∷ notes, (0, lie) ∷ []) → ⊥
  left_as_it_was may = omega (arith, ap length may.laid.1)

-- A seat that has put a parcel gives the slot back with it behind those that lay there, and not before them.
abbrev puts : List Note
puts = Queued 0 (From 3 ∷ []) ∷ Lies Putting 0 (From 7) ∷ []

put_before_the_other : MayPutBack (λ (qs : List Part). qs) 0 (puts, (0, From 7 ∷ From 3 ∷ []) ∷ []) → ⊥
put_before_the_other may = omega (arith, ap (λ (qs : List Part). place (oldest qs)) may.laid.1)

-- Of a list of parcels the first is taken, and the others stay.
abbrev tokens : List (Given ℕ)
tokens = FirstToken ∷ NoValue ∷ []

taken : IsOldest tokens FirstToken (NoValue ∷ [])
taken = (refl, refl)

found_twice : IsOldest tokens FirstToken tokens → ⊥
found_twice is = omega (arith, ap length is.1)

taken_of_none : IsOldest {V = ℕ} [] NoValue []
taken_of_none = (refl, refl)

-- A bare parcel lies in an empty slot alone, one with a node behind others too.
bare_lies_alone : MayLieBehind {V = ℕ} [] (Bare FirstToken) × (parcel_in {V = ℕ} (Bare FirstToken) ≡ FirstToken ∷ [])
bare_lies_alone = (λ bare. refl, refl)

bare_behind_others : MayLieBehind tokens (Bare FirstToken) → ⊥
bare_behind_others may = omega (arith, ap length (may refl))

linked_behind_others : MayLieBehind tokens (Linked tokens) × (is_bare (Linked tokens) ≡ false)
linked_behind_others = (λ bare. absurd (false≢true bare), refl)

-- Where an edge begins with a token, parcels aren't bare.
abbrev begins_with_a_token : NetRows
begins_with_a_token = record { tasks = []; edges = record { from = 0; to = 1; start = true } ∷ []; sems = [] }

bare_behind_a_token : MayBeBare begins_with_a_token true → ⊥
bare_behind_a_token may = omega (arith, (may refl).no_first 0)

linked_behind_a_token : MayBeBare begins_with_a_token false
linked_behind_a_token bare = absurd (false≢true bare)

bit_few : (b : Bool) → one_if b ≤ 1
bit_few true = omega arith
bit_few false = omega arith

-- No value lies twice in a slot, or in it and with a seat.
lies_twice : (net : NetRows) (journal : List Entry) (edge F R : ℕ → ℕ) (P Q : ℕ → Part → ℕ) → DataPart net journal edge P Q F R → P 0 (From 3) + Q 0 (From 3) ≡ 2 → ⊥
lies_twice net journal edge F R P Q d two = omega (arith, d.froms 0 3, two, bit_few (option_map_or (gives_edge 0) (slice_get journal 3) false))

times_two : part_times (From 3) (From 3 ∷ From 5 ∷ From 3 ∷ []) ≡ 2
times_two = refl
