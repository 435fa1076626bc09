-- What slots say of keys.
use Rattle.std.proofs.Common.{◌≡◌, ◌≢◌, ℕ, zero, suc, ◌+◌, ◌-◌, ◌<◌, ◌≤◌, Bool, true, false, cond, List, [], ◌∷◌, ◌++◌, length, take, get_or, set, Option, Some, None, refl, sym, ap, subst, ◌∙◌, arith, ⊎_elim}
use Rattle.std.specs.Prelude.{slice_get}
use Rattle.std.proofs.Math.Seq.{take-append_seam}
use Rattle.std.specs.Str.{bytes_eq}
use Rattle.std.proofs.lemmas.Bool.{cases_lt, cond-true, cond-false}
use Rattle.std.proofs.lemmas.Option.{slice_get_within, slice_get_read, slice_get_past}
use Rattle.std.proofs.lemmas.List.{length-set}
use Rattle.std.proofs.lemmas.Slice.Eq.{bytes_eq-Decides}
use Rattle.text_ops.specs.declared.slots.Probed.{Probed}
use Rattle.text_ops.specs.declared.slots.Probed.TheVariants.{Row, Free, Crowded}
use Rattle.text_ops.specs.inside.SortKeys.{SortKeyRow, keyed_piece}
use Rattle.text_ops.specs.inside.Slots.{first_slot}
use Rattle.text_ops.specs.inside.KeySlots.{at_row, at_slot, found, look_up, AreFilled}

-- what is read after a change
read_other : {X : Type 0} (xs : List X) (i j : ℕ) (x : X) → j ≢ i → slice_get (set xs i x) j ≡ slice_get xs j
read_other [] i j x apart = refl
read_other (y ∷ ys) zero zero x apart = absurd (apart refl)
read_other (y ∷ ys) zero (suc j) x apart = refl
read_other (y ∷ ys) (suc i) zero x apart = refl
read_other (y ∷ ys) (suc i) (suc j) x apart = read_other ys i j x (λ same. apart (ap suc same))

read_changed : {X : Type 0} (xs : List X) (i : ℕ) (x y : X) → slice_get xs i ≡ Some y → slice_get (set xs i x) i ≡ Some x
read_changed [] i x y is = cc
read_changed (z ∷ zs) zero x y is = refl
read_changed (z ∷ zs) (suc i) x y is = read_changed zs i x y is

-- a place is another one or not
by_place : {Goal : Type 0} (a b : ℕ) → (a ≡ b → Goal) → (a ≢ b → Goal) → Goal
by_place a b same apart =
    ⊎_elim
    (λ low. apart (λ is. omega (arith, is, low)))
    (λ high. ⊎_elim (λ past. apart (λ is. omega (arith, is, past))) (λ level. same (omega arith)) (cases_lt b a))
    (cases_lt a b)

abbrev pub place_of : Probed → ℕ
place_of (Row k) = k
place_of (Free at) = at
place_of Crowded = 0

module _ (text : List ℕ) (rows : List SortKeyRow) (key : List ℕ) where
  -- a row that is found behind a slot, or a free slot there
  row_bool : (b : Bool) (row j : ℕ) (later more : Probed) → (later ≡ Row j → more ≡ Row j) → cond b (Row row) later ≡ Row j → cond b (Row row) more ≡ Row j
  row_bool true row j later more on is = is
  row_bool false row j later more on is = on is

  row_row : (r : Option SortKeyRow) (at row j : ℕ) (later more : Probed) → (later ≡ Row j → more ≡ Row j) → at_row text key at row r later ≡ Row j → at_row text key at row r more ≡ Row j
  row_row None at row j later more on is = is
  row_row (Some sort_key) at row j later more on is = row_bool (bytes_eq (keyed_piece text sort_key) key) row j later more on is

  row_on : (o : Option ℕ) (at j : ℕ) (later more : Probed) → (later ≡ Row j → more ≡ Row j) → at_slot text rows key at o later ≡ Row j → at_slot text rows key at o more ≡ Row j
  row_on None at j later more on is = is
  row_on (Some row) at j later more on is = row_row (slice_get rows row) at row j later more on is

  free_bool : (b : Bool) (row s j : ℕ) (later more : Probed) → (later ≡ Free s → more ≡ Row j) → cond b (Row row) later ≡ Free s → cond b (Row row) more ≡ Row j
  free_bool true row s j later more on is = cc
  free_bool false row s j later more on is = on is

  free_row : (r : Option SortKeyRow) (at row s j : ℕ) (later more : Probed) → at ≢ s → (later ≡ Free s → more ≡ Row j) → at_row text key at row r later ≡ Free s → at_row text key at row r more ≡ Row j
  free_row None at row s j later more apart on is = absurd (apart (ap place_of is))
  free_row (Some sort_key) at row s j later more apart on is = free_bool (bytes_eq (keyed_piece text sort_key) key) row s j later more on is

  free_on : (o : Option ℕ) (at s j : ℕ) (later more : Probed) → at ≢ s → (later ≡ Free s → more ≡ Row j) → at_slot text rows key at o later ≡ Free s → at_slot text rows key at o more ≡ Row j
  free_on None at s j later more apart on is = cc
  free_on (Some row) at s j later more apart on is = free_row (slice_get rows row) at row s j later more apart on is

  -- a free slot names no row
  abbrev IsFreeSlot : List ℕ → ℕ → Type 0
  IsFreeSlot slots s = (old : ℕ) × (slice_get slots s ≡ Some old) × (slice_get rows old ≡ None)

  pub free_is : (slots : List ℕ) (n at s : ℕ) → found text rows slots key n at ≡ Free s → IsFreeSlot slots s
  free_is slots zero at s is = cc
  free_is slots (suc n) at s is = by_slot (free_is slots n (at + 1) s) (slice_get slots at) refl is
    where
      by_bool : (found text rows slots key n (at + 1) ≡ Free s → IsFreeSlot slots s) → (b : Bool) (row : ℕ) → cond b (Row row) (found text rows slots key n (at + 1)) ≡ Free s → IsFreeSlot slots s
      by_bool behind true row h = cc
      by_bool behind false row h = behind h

      by_row : (found text rows slots key n (at + 1) ≡ Free s → IsFreeSlot slots s) → (row : ℕ) (r : Option SortKeyRow) → slice_get slots at ≡ Some row → slice_get rows row ≡ r → at_row text key at row r (found text rows slots key n (at + 1)) ≡ Free s → IsFreeSlot slots s
      by_row behind row None e none h = (row, subst (λ p. slice_get slots p ≡ Some row) (ap place_of h) e, none)
      by_row behind row (Some sort_key) e some h = by_bool behind (bytes_eq (keyed_piece text sort_key) key) row h

      by_slot : (found text rows slots key n (at + 1) ≡ Free s → IsFreeSlot slots s) → (o : Option ℕ) → slice_get slots at ≡ o → at_slot text rows key at o (found text rows slots key n (at + 1)) ≡ Free s → IsFreeSlot slots s
      by_slot behind None e h = cc
      by_slot behind (Some row) e h = by_row behind row (slice_get rows row) e refl h

  -- a row that is found has the key
  abbrev HasKey : ℕ → Type 0
  HasKey j = (row : SortKeyRow) × (slice_get rows j ≡ Some row) × (keyed_piece text row ≡ key)

  pub row_is : (slots : List ℕ) (n at j : ℕ) → found text rows slots key n at ≡ Row j → HasKey j
  row_is slots zero at j is = cc
  row_is slots (suc n) at j is = by_slot (row_is slots n (at + 1) j) (slice_get slots at) is
    where
      by_bool : (found text rows slots key n (at + 1) ≡ Row j → HasKey j) → (b : Bool) (row : ℕ) (sort_key : SortKeyRow) → slice_get rows row ≡ Some sort_key → bytes_eq (keyed_piece text sort_key) key ≡ b → cond b (Row row) (found text rows slots key n (at + 1)) ≡ Row j → HasKey j
      by_bool behind true row sort_key some same h = (sort_key, subst (λ p. slice_get rows p ≡ Some sort_key) (ap place_of h) some, (bytes_eq-Decides (keyed_piece text sort_key) key).0 same)
      by_bool behind false row sort_key some same h = behind h

      by_row : (found text rows slots key n (at + 1) ≡ Row j → HasKey j) → (row : ℕ) (r : Option SortKeyRow) → slice_get rows row ≡ r → at_row text key at row r (found text rows slots key n (at + 1)) ≡ Row j → HasKey j
      by_row behind row None none h = cc
      by_row behind row (Some sort_key) some h = by_bool behind (bytes_eq (keyed_piece text sort_key) key) row sort_key some refl h

      by_slot : (found text rows slots key n (at + 1) ≡ Row j → HasKey j) → (o : Option ℕ) → at_slot text rows key at o (found text rows slots key n (at + 1)) ≡ Row j → HasKey j
      by_slot behind None h = cc
      by_slot behind (Some row) h = by_row behind row (slice_get rows row) refl h

  -- a free slot that is filled: what was found still is, and the key for which it is free is found there
  module _ (slots : List ℕ) (s old i : ℕ) (read : slice_get slots s ≡ Some old) (none : slice_get rows old ≡ None) where
    abbrev later : ℕ → ℕ → Probed
    later n at = found text rows slots key n (at + 1)

    is_free : (n at : ℕ) → at ≡ s → found text rows slots key (suc n) at ≡ Free at
    is_free n at same =
        ap (λ o. at_slot text rows key at o (later n at)) (subst (λ p. slice_get slots p ≡ Some old) (sym same) read)
        ∙ ap (λ r. at_row text key at old r (later n at)) none

    pub still_found : (n at j : ℕ) → found text rows slots key n at ≡ Row j → found text rows (set slots s i) key n at ≡ Row j
    still_found zero at j is = is
    still_found (suc n) at j is =
        by_place at s
        (λ same. let never : Free at ≡ Row j = sym (is_free n at same) ∙ is in cc)
        (λ apart.
        ap (λ o. at_slot text rows key at o (found text rows (set slots s i) key n (at + 1))) (read_other slots s at i apart)
        ∙ row_on (slice_get slots at) at j (later n at) (found text rows (set slots s i) key n (at + 1)) (still_found n (at + 1) j) is)

    pub now_found : (row : SortKeyRow) → slice_get rows i ≡ Some row → keyed_piece text row ≡ key → (n at : ℕ) → found text rows slots key n at ≡ Free s → found text rows (set slots s i) key n at ≡ Row i
    now_found row some same zero at is = cc
    now_found row some same (suc n) at is =
        by_place at s
        (λ here.
        let more = found text rows (set slots s i) key n (at + 1) in
        ap (λ o. at_slot text rows key at o more) (subst (λ p. slice_get (set slots s i) p ≡ Some i) (sym here) (read_changed slots s i old read))
        ∙ ap (λ r. at_row text key at i r more) some
        ∙ cond-true (bytes_eq (keyed_piece text row) key) (Row i) more ((bytes_eq-Decides (keyed_piece text row) key).1 same))
        (λ apart.
        ap (λ o. at_slot text rows key at o (found text rows (set slots s i) key n (at + 1))) (read_other slots s at i apart)
        ∙ free_on (slice_get slots at) at s i (later n at) (found text rows (set slots s i) key n (at + 1)) apart (now_found row some same n (at + 1)) is)

-- each sort key before one more is found
module _ (text : List ℕ) (rows : List SortKeyRow) (slots : List ℕ) (i : ℕ) (here : SortKeyRow) (at_i : slice_get rows i ≡ Some here) (filled : AreFilled text rows slots i) where
  last_is : (row : SortKeyRow) → slice_get rows i ≡ Some row → here ≡ row
  last_is row some = let one : Some here ≡ Some row = sym at_i ∙ some in cc

  -- it is found itself
  AreFilled-same : (slots_now : List ℕ) (j : ℕ) → ((key : List ℕ) (k : ℕ) → look_up text rows slots key ≡ Row k → look_up text rows slots_now key ≡ Row k) → j ≤ i → look_up text rows slots_now (keyed_piece text here) ≡ Row j → AreFilled text rows slots_now (i + 1)
  AreFilled-same slots_now j still low is k row below some =
      ⊎_elim
      (λ before. let earlier = filled k row before some in (earlier.0, earlier.1, still (keyed_piece text row) earlier.0 earlier.2))
      (λ from.
      let one : i ≡ k = omega arith in
      let same = last_is row (ap (slice_get rows) one ∙ some) in
      (j, omega arith, ap (λ r. look_up text rows slots_now (keyed_piece text r)) (sym same) ∙ is))
      (cases_lt k i)

  pub AreFilled-found : (j : ℕ) → j ≤ i → look_up text rows slots (keyed_piece text here) ≡ Row j → AreFilled text rows slots (i + 1)
  AreFilled-found j low is = AreFilled-same slots j (λ key k h. h) low is

  pub AreFilled-filled : (s : ℕ) → look_up text rows slots (keyed_piece text here) ≡ Free s → AreFilled text rows (set slots s i) (i + 1)
  AreFilled-filled s is =
      let key = keyed_piece text here in
      let free = free_is text rows key slots 16 (first_slot key (length slots)) s is in
      let long = length-set slots s i in
      AreFilled-same (set slots s i) i
      (λ q k h.
      ap (λ n. found text rows (set slots s i) q 16 (first_slot q n)) long
      ∙ still_found text rows q slots s free.0 i free.1 free.2 16 (first_slot q (length slots)) k h)
      (omega arith)
      (ap (λ n. found text rows (set slots s i) key 16 (first_slot key n)) long
      ∙ now_found text rows key slots s free.0 i free.1 free.2 here at_i refl 16 (first_slot key (length slots)) is)

pub free_within : (text : List ℕ) (rows : List SortKeyRow) (slots key : List ℕ) (s : ℕ) → look_up text rows slots key ≡ Free s → s < length slots
free_within text rows slots key s is =
    let free = free_is text rows key slots 16 (first_slot key (length slots)) s is in
    slice_get_within slots s free.0 free.1

-- One more look at a slot.
pub is_read : {X : Type 0} (xs : List X) (i : ℕ) (x : X) → i < length xs → ((d : X) → x ≡ get_or xs i d) → slice_get xs i ≡ Some x
is_read xs i x low is = slice_get_read xs (length xs) i x refl low (is x)

module _ (text : List ℕ) (rows : List SortKeyRow) (slots key : List ℕ) (first probe : ℕ) (low : probe < 16) where
  abbrev on : Probed
  on = found text rows slots key (16 - (probe + 1)) (first + (probe + 1))

  look : (o : Option ℕ) → slice_get slots (first + probe) ≡ o → found text rows slots key (16 - probe) (first + probe) ≡ at_slot text rows key (first + probe) o on
  look o is =
      let fuel : 16 - probe ≡ suc (16 - (probe + 1)) = omega arith in
      let next : first + probe + 1 ≡ first + (probe + 1) = omega arith in
      ap (λ n. found text rows slots key n (first + probe)) fuel
      ∙ ap (λ p. at_slot text rows key (first + probe) (slice_get slots (first + probe)) (found text rows slots key (16 - (probe + 1)) p)) next
      ∙ ap (λ s. at_slot text rows key (first + probe) s on) is

  pub look_crowded : length slots ≤ first + probe → found text rows slots key (16 - probe) (first + probe) ≡ Crowded
  look_crowded past = look None (slice_get_past slots (first + probe) past)

  module _ (row : ℕ) (is : slice_get slots (first + probe) ≡ Some row) where
    pub look_free : length rows ≤ row → found text rows slots key (16 - probe) (first + probe) ≡ Free (first + probe)
    look_free past = look (Some row) is ∙ ap (λ r. at_row text key (first + probe) row r on) (slice_get_past rows row past)

    module _ (sort_key : SortKeyRow) (at : slice_get rows row ≡ Some sort_key) where
      pub look_row : bytes_eq (keyed_piece text sort_key) key ≡ true → found text rows slots key (16 - probe) (first + probe) ≡ Row row
      look_row same =
          look (Some row) is ∙ ap (λ r. at_row text key (first + probe) row r on) at
          ∙ cond-true (bytes_eq (keyed_piece text sort_key) key) (Row row) on same

      pub look_on : bytes_eq (keyed_piece text sort_key) key ≡ false → found text rows slots key (16 - probe) (first + probe) ≡ on
      look_on other =
          look (Some row) is ∙ ap (λ r. at_row text key (first + probe) row r on) at
          ∙ cond-false (bytes_eq (keyed_piece text sort_key) key) (Row row) on other

-- what a changed list is in the place of the one that it was
pub written_back : {X : Type 0} (n : ℕ) (new rest : List X) → length new ≡ n → take n (new ++ rest) ≡ new
written_back n new rest size = subst (λ m. take m (new ++ rest) ≡ new) size (take-append_seam new rest)
