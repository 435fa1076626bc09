-- Where the starts and the ends of a task stand in a journal.
use Rattle.std.proofs.Common.{◌≡◌, ℕ, zero, suc, ◌+◌, ◌<◌, Bool, true, false, cond, eqb, List, [], ◌∷◌, ◌++◌, length, Option, Some, None, sym, refl, ap, ◌∙◌, arith}
use Rattle.std.specs.Prelude.{slice_get}
use Rattle.std.specs.Option.{option_and_then}
use Rattle.std.proofs.lemmas.Bool.{false≢true}
use Rattle.std.proofs.lemmas.Bool.Decides.{nat_tests}
use Rattle.std.proofs.lemmas.Option.{none-some, same_Some, slice_get_within}
use Rattle.journal_rules.specs.declared.entry.Cause.{Cause}
use Rattle.journal_rules.specs.declared.entry.Part.{Part}
use Rattle.journal_rules.specs.declared.entry.Entry.{Entry}
use Rattle.journal_rules.specs.declared.entry.Entry.TheVariants.{Start, End, Fault, Drop}
use Rattle.journal_rules.specs.Counts.{start_at}
use Rattle.run_frame.specs.declared.run.ValueRow.{ValueRow}
use Rattle.run_frame.specs.LastEnds.{ended_at, ended_task}
use Rattle.run_frame.specs.Runs.{found_ins, value_at}
use Rattle.run_laws.specs.OneThreadValue.{TaskEnd}
use Rattle.run_laws.specs.Ends.{end_of, gather, is_task}
use Rattle.run_laws.proofs.Steps.{ends_in, start_of, starts_in}

-- ---- lists

get_behind : {X : Type 0} (xs ys : List X) (k : ℕ) → slice_get (xs ++ ys) (length xs + k) ≡ slice_get ys k
get_behind [] ys k = let same : 0 + k ≡ k = omega arith in ap (slice_get ys) same
get_behind (x ∷ xs) ys k = let same : suc (length xs) + k ≡ suc (length xs + k) = omega arith in ap (slice_get (x ∷ xs ++ ys)) same ∙ get_behind xs ys k

-- where there is nothing the list has ended
pub not_past : {X : Type 0} (xs : List X) (k : ℕ) → slice_get xs k ≡ None → k < length xs → ⊥
not_past [] k none less = omega (arith, less)
not_past (x ∷ xs) zero none less = cc
not_past (x ∷ xs) (suc k) none less = not_past xs k none (omega (arith, less))

-- where an item of a list gives just one thing, what all give has it
pub gather_has : {X Y : Type 0} (f : ℕ → X → List Y) (n : ℕ) (xs : List X) (i : ℕ) (x : X) (y : Y) → slice_get xs i ≡ Some x → f (n + i) x ≡ y ∷ [] → (k : ℕ) × (slice_get (gather f n xs) k ≡ Some y)
gather_has f n [] i x y at is = absurd (none-some _ at)
gather_has f n (z ∷ xs) zero x y at is =
    let same : z ≡ x = same_Some _ _ at in
    let here : n + 0 ≡ n = omega arith in
    let first : f n z ≡ y ∷ [] = ap (f n) same ∙ ap (λ m. f m x) (sym here) ∙ is in
    (0, ap (λ ys. slice_get (ys ++ gather f (suc n) xs) 0) first)
gather_has f n (z ∷ xs) (suc i) x y at is =
    let next : suc n + i ≡ n + suc i = omega arith in
    let rest = gather_has f (suc n) xs i x y at (ap (λ m. f m x) next ∙ is) in
    (length (f n z) + rest.0, get_behind (f n z) (gather f (suc n) xs) rest.0 ∙ rest.1)

-- the item that gave a thing
pub record GatheredAt {X Y : Type 0} (f : ℕ → X → List Y) (n : ℕ) (xs : List X) (y : Y) : Type 0 where
  pub place : ℕ
  pub item : X
  pub at : slice_get xs place ≡ Some item
  pub among : ℕ
  pub is : slice_get (f (n + place) item) among ≡ Some y

pub gathered_at : {X Y : Type 0} (f : ℕ → X → List Y) (n : ℕ) (xs : List X) (k : ℕ) (y : Y) → slice_get (gather f n xs) k ≡ Some y → GatheredAt f n xs y
gathered_at f n [] k y at = absurd (none-some _ at)
gathered_at {X} {Y} f n (x ∷ xs) k y at = by_first (f n x) refl k at (λ j there. gathered_at f (suc n) xs j y there)
  where
    later : GatheredAt f (suc n) xs y → GatheredAt f n (x ∷ xs) y
    later rest = let next : suc n + rest.place ≡ n + suc rest.place = omega arith in record { place = suc rest.place; item = rest.item; at = rest.at; among = rest.among; is = ap (λ m. slice_get (f m rest.item) rest.among) (sym next) ∙ rest.is }

    by_item : (zs : List Y) (j : ℕ) → slice_get (zs ++ gather f (suc n) xs) j ≡ Some y → ((i : ℕ) → slice_get (gather f (suc n) xs) i ≡ Some y → GatheredAt f (suc n) xs y) → ((i : ℕ) → slice_get zs i ≡ Some y → GatheredAt f n (x ∷ xs) y) → GatheredAt f n (x ∷ xs) y
    by_item [] j there more here = later (more j there)
    by_item (z ∷ zs) zero there more here = here 0 there
    by_item (z ∷ zs) (suc j) there more here = by_item zs j there more (λ i is. here (suc i) is)

    by_first : (zs : List Y) → f n x ≡ zs → (j : ℕ) → slice_get (zs ++ gather f (suc n) xs) j ≡ Some y → ((i : ℕ) → slice_get (gather f (suc n) xs) i ≡ Some y → GatheredAt f (suc n) xs y) → GatheredAt f n (x ∷ xs) y
    by_first zs is j there more =
        let same : n + 0 ≡ n = omega arith in
        by_item zs j there more (λ i here. record { place = 0; item = x; at = refl; among = i; is = ap (λ m. slice_get (f m x) i) same ∙ ap (λ ys. slice_get ys i) is ∙ here })

-- ---- starts and ends

module _ {V : Type 0} (values : List (ValueRow V)) (h : List Entry) (t : ℕ) where
  same_task : eqb t t ≡ true
  same_task = grind (arith, nat_tests)

  -- a Start of the task is one of its starts
  pub start_among : (n : ℕ) (cause : Cause) (ins : List Part) → slice_get h n ≡ Some (Start t cause ins) → (k : ℕ) × (slice_get (starts_in values t h) k ≡ Some (found_ins values ins))
  start_among n cause ins at = gather_has (start_of values t) 0 h n (Start t cause ins) (found_ins values ins) at (ap (λ b. cond b (found_ins values ins ∷ []) []) same_task)

  -- where an End of the task stands that has a value
  pub record EndStands (n : ℕ) (v : V) : Type 0 where
    pub of_task : ended_at h n ≡ Some t
    pub has : value_at values n ≡ Some v

  -- it is one of its ends
  pub end_among : (n : ℕ) (v : V) → EndStands n v → (k : ℕ) × ((end : TaskEnd V) × (end.value ≡ v) × (slice_get (ends_in values (start_at h) t h) k ≡ Some end))
  end_among n v stands = by_entry (slice_get h n) refl stands.of_task
    where
      Among : Type 0
      Among = (k : ℕ) × ((end : TaskEnd V) × (end.value ≡ v) × (slice_get (ends_in values (start_at h) t h) k ≡ Some end))

      by_entry : (o : Option Entry) → slice_get h n ≡ o → option_and_then (ended_task h) o ≡ Some t → Among
      by_entry None at is = absurd (none-some _ is)
      by_entry (Some (Start task cause ins)) at is = absurd (none-some _ is)
      by_entry (Some (Fault start why)) at is = absurd (none-some _ is)
      by_entry (Some (Drop task cause why)) at is = absurd (none-some _ is)
      by_entry (Some (End start gives inner)) at is =
          let end : TaskEnd V = record { value = v; gives = gives } in
          let plain : 0 + n ≡ n = omega arith in
          let whole : end_of values (start_at h) t (0 + n) (End start gives inner) ≡ end ∷ [] =
          ap (λ m. end_of values (start_at h) t m (End start gives inner)) plain
          ∙ ap (λ (o : Option V). elim o as (λ _. List (TaskEnd V)) [ None ↦ [] | Some w ↦ cond (is_task t (start_at h start)) ((record { value = w; gives = gives }) ∷ []) [] ]) stands.has
          ∙ ap (λ s. cond (is_task t s) (end ∷ []) []) is ∙ ap (λ b. cond b (end ∷ []) []) same_task in
          let has = gather_has (end_of values (start_at h) t) 0 h n (End start gives inner) end at whole in
          (has.0, (end, refl, has.1))

  -- each of its ends stands somewhere
  pub end_stands : (k : ℕ) (end : TaskEnd V) → slice_get (ends_in values (start_at h) t h) k ≡ Some end → (n : ℕ) × ((n < length h) × EndStands n end.value)
  end_stands k end at_k = (found.place, (slice_get_within h found.place found.item found.at, by_item found.item found.at found.is))
    where
      found : GatheredAt (end_of values (start_at h) t) 0 h end
      found = gathered_at (end_of values (start_at h) t) 0 h k end at_k

      plain : 0 + found.place ≡ found.place
      plain = omega arith

      by_item : (x : Entry) → slice_get h found.place ≡ Some x → slice_get (end_of values (start_at h) t (0 + found.place) x) found.among ≡ Some end → EndStands found.place end.value
      by_item (Start task cause ins) at is = absurd (none-some _ is)
      by_item (Fault start why) at is = absurd (none-some _ is)
      by_item (Drop task cause why) at is = absurd (none-some _ is)
      by_item (End start gives inner) at is = by_value (value_at values (0 + found.place)) refl is
        where
          only : (w : V) (j : ℕ) → slice_get ((record { value = w; gives = gives }) ∷ []) j ≡ Some end → w ≡ end.value
          only w zero here = ap (λ (e : TaskEnd V). e.value) (same_Some _ _ here)
          only w (suc j) here = absurd (none-some _ here)

          by_test : (w : V) → value_at values (0 + found.place) ≡ Some w → (b : Bool) → is_task t (start_at h start) ≡ b → slice_get (cond b ((record { value = w; gives = gives }) ∷ []) []) found.among ≡ Some end → EndStands found.place end.value
          by_test w has false other here = absurd (none-some _ here)
          by_test w has true its here = record {
            of_task = ap (option_and_then (ended_task h)) at ∙ by_start (start_at h start) its;
            has = ap (value_at values) (sym plain) ∙ has ∙ ap Some (only w found.among here);
          }
            where
              by_start : (o : Option ℕ) → is_task t o ≡ true → o ≡ Some t
              by_start None none = absurd (false≢true none)
              by_start (Some s) hit = let same : s ≡ t = grind (arith, nat_tests) in ap Some same

          by_value : (o : Option V) → value_at values (0 + found.place) ≡ o
              → slice_get (elim o as (λ _. List (TaskEnd V)) [ None ↦ [] | Some w ↦ cond (is_task t (start_at h start)) ((record { value = w; gives = gives }) ∷ []) [] ]) found.among ≡ Some end → EndStands found.place end.value
          by_value None none here = absurd (none-some _ here)
          by_value (Some w) has here = by_test w has (is_task t (start_at h start)) refl here
