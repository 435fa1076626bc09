-- Lists in a line, read and written.
use Rattle.std.proofs.Common.{◌≡◌, ℕ, zero, suc, ◌<◌, ◌^◌, true, false, ◌==◌, List, [], ◌∷◌, ◌++◌, length, refl, sym, ap, ◌∙◌, arith, append_assoc, Some, None, inl, inr, decimal, codes}
use Rattle.std.specs.List.{AllByRecursion, flat_map}
use Rattle.std.specs.Char.{is_ascii_digit}
use Rattle.std.specs.Str.{all_ascii_digits}
use Rattle.std.proofs.lemmas.Bool.{cond-true, ne_eqb}
use Rattle.journal_rules.specs.declared.entry.Part.{Part}
use Rattle.journal_rules.specs.declared.entry.Part.TheVariants.{From, First, Nothing}
use Rattle.journal_text.specs.JournalText.{part_field, list_field, FitsPart}
use Rattle.journal_text.specs.inside.Reading.{ReadFront, ◌>>=◌, word_at, index_at, part_at, next_item, items_on, ends_list, comma_count, items_at, list_at}
use Rattle.journal_text.proofs.Steps.{bind_some, or_some, first_of_both, second_of_both}
use Rattle.journal_text.proofs.NumberLemmas.{index_sound, index_again, decimal_digits}
use Rattle.journal_text.proofs.FieldLemmas.{Stands, stands_at, word_sound, word_no, part_sound, part_again}

-- the items behind a list's first one, as they are written
abbrev behind_commas : {A : Type 0} → (A → List ℕ) → List A → List ℕ
behind_commas field xs = flat_map (λ y. codes "," ++ field y) xs

-- an item is read as it is written, and no comma stands in it
pub record AreItems {A : Type 0} (item : List ℕ → ReadFront A) (field : A → List ℕ) (Fits : A → Type 0) : Type 0 where
  pub sound : (bytes : List ℕ) (x : A) (rest : List ℕ) → item bytes ≡ Some (x, rest) → Stands field Fits bytes x rest
  pub again : (x : A) (byte : ℕ) (rest : List ℕ) → Fits x → is_ascii_digit byte ≡ false → item (field x ++ byte ∷ rest) ≡ Some (x, byte ∷ rest)
  pub calm : (x : A) (more : List ℕ) → Fits x → comma_count (field x ++ more) ≡ comma_count more
  pub apart : (x : A) (more : List ℕ) → Fits x → word_at (codes "-") (field x ++ more) ≡ None

-- ---- what is read

items_on-sound : {A : Type 0} {item : List ℕ → ReadFront A} {field : A → List ℕ} {Fits : A → Type 0} → AreItems item field Fits
    → (count : ℕ) (bytes : List ℕ) (xs : List A) (rest : List ℕ) → items_on item count bytes ≡ Some (xs, rest) → Stands (behind_commas field) (AllByRecursion Fits) bytes xs rest
items_on-sound {field = field} {Fits = Fits} are zero bytes xs rest is = stands_at (behind_commas field) (AllByRecursion Fits) bytes [] xs bytes rest is (refl, tt)
items_on-sound {A = A} {item = item} {field = field} {Fits = Fits} are (suc count) bytes xs rest is =
    let one = bind_some (next_item item bytes) (λ x. items_on item count x.1 >>= λ more. Some (x.0 ∷ more.0, more.1)) (xs, rest) is in
    let two = bind_some (items_on item count one.0.1) (λ more. Some (one.0.0 ∷ more.0, more.1)) (xs, rest) one.2 in
    let comma = bind_some (word_at (codes ",") bytes) item one.0 one.1 in
    let first = are.sound comma.0 one.0.0 one.0.1 comma.2 in
    let others = items_on-sound are count one.0.1 two.0.0 two.0.1 two.1 in
    stands_at (behind_commas field) (AllByRecursion Fits) bytes (one.0.0 ∷ two.0.0) xs two.0.1 rest two.2 (
      word_sound (codes ",") bytes comma.0 comma.1
          ∙ ap (λ behind. 44 ∷ behind) (first.0 ∙ ap (λ behind. field one.0.0 ++ behind) others.0 ∙ sym (append_assoc (field one.0.0) (behind_commas field two.0.0) two.0.1)),
      (first.1, others.1),
    )

pub list_sound : {A : Type 0} {item : List ℕ → ReadFront A} {field : A → List ℕ} {Fits : A → Type 0} → AreItems item field Fits
    → (bytes : List ℕ) (xs : List A) (rest : List ℕ) → list_at item bytes ≡ Some (xs, rest) → Stands (list_field field) (AllByRecursion Fits) bytes xs rest
unfolding list_at items_at
list_sound {A = A} {item = item} {field = field} {Fits = Fits} are bytes xs rest is = elim (or_some (word_at (codes "-") bytes) (λ behind. Some ([], behind)) (items_at item bytes) (xs, rest) is) [
  | inl there ↦ stands_at (list_field field) (AllByRecursion Fits) bytes [] xs there.0 rest there.2 (word_sound (codes "-") bytes there.0 there.1, tt)
  | inr gone ↦
      let one = bind_some (item bytes) (λ x. items_on item (comma_count bytes) x.1 >>= λ more. Some (x.0 ∷ more.0, more.1)) (xs, rest) gone.1 in
      let two = bind_some (items_on item (comma_count bytes) one.0.1) (λ more. Some (one.0.0 ∷ more.0, more.1)) (xs, rest) one.2 in
      let first = are.sound bytes one.0.0 one.0.1 one.1 in
      let others = items_on-sound are (comma_count bytes) one.0.1 two.0.0 two.0.1 two.1 in
      stands_at (list_field field) (AllByRecursion Fits) bytes (one.0.0 ∷ two.0.0) xs two.0.1 rest two.2
      (first.0 ∙ ap (λ behind. field one.0.0 ++ behind) others.0 ∙ sym (append_assoc (field one.0.0) (behind_commas field two.0.0) two.0.1), (first.1, others.1))
]

-- ---- what is written

-- a byte that ends a list, or the comma of a further item, stands behind an item
next_byte : {A : Type 0} (field : A → List ℕ) (xs : List A) (byte : ℕ) (rest : List ℕ) → is_ascii_digit byte ≡ false
    → (b : ℕ) × (more : List ℕ) × (behind_commas field xs ++ byte ∷ rest ≡ b ∷ more) × (is_ascii_digit b ≡ false)
next_byte field [] byte rest other = (byte, rest, refl, other)
next_byte field (x ∷ xs) byte rest other = (44, (field x ++ behind_commas field xs) ++ byte ∷ rest, refl, refl)

item_again : {A : Type 0} {item : List ℕ → ReadFront A} {field : A → List ℕ} {Fits : A → Type 0} → AreItems item field Fits
    → (x : A) (xs : List A) (byte : ℕ) (rest : List ℕ) → Fits x → is_ascii_digit byte ≡ false
    → item (field x ++ (behind_commas field xs ++ byte ∷ rest)) ≡ Some (x, behind_commas field xs ++ byte ∷ rest)
item_again {item = item} {field = field} are x xs byte rest fits other =
    let next = next_byte field xs byte rest other in
    ap (λ behind. item (field x ++ behind)) next.2 ∙ are.again x next.0 next.1 fits next.3 ∙ ap (λ behind. Some (x, behind)) (sym next.2)

items_on-again : {A : Type 0} {item : List ℕ → ReadFront A} {field : A → List ℕ} {Fits : A → Type 0} → AreItems item field Fits
    → (xs : List A) (byte : ℕ) (rest : List ℕ) → AllByRecursion Fits xs → is_ascii_digit byte ≡ false
    → items_on item (length xs) (behind_commas field xs ++ byte ∷ rest) ≡ Some (xs, byte ∷ rest)
items_on-again are [] byte rest fit other = refl
items_on-again {item = item} {field = field} are (x ∷ xs) byte rest fit other =
    let first = item_again are x xs byte rest fit.0 other in
    let others = items_on-again are xs byte rest fit.1 other in
    ap (λ behind. items_on item (suc (length xs)) (44 ∷ behind)) (append_assoc (field x) (behind_commas field xs) (byte ∷ rest)) ∙ rw (first, others) refl

-- as many commas as further items
commas_again : {A : Type 0} {item : List ℕ → ReadFront A} {field : A → List ℕ} {Fits : A → Type 0} → AreItems item field Fits
    → (xs : List A) (byte : ℕ) (rest : List ℕ) → AllByRecursion Fits xs → ends_list byte ≡ true → comma_count (behind_commas field xs ++ byte ∷ rest) ≡ length xs
commas_again are [] byte rest fit ends = cond-true _ _ _ ends
commas_again {field = field} are (x ∷ xs) byte rest fit ends =
    let others = commas_again are xs byte rest fit.1 ends in
    let first = are.calm x (behind_commas field xs ++ byte ∷ rest) fit.0 in
    let grouped = ap (λ behind. comma_count (44 ∷ behind)) (append_assoc (field x) (behind_commas field xs) (byte ∷ rest)) in
    grouped ∙ omega arith

pub list_again : {A : Type 0} {item : List ℕ → ReadFront A} {field : A → List ℕ} {Fits : A → Type 0} → AreItems item field Fits
    → (xs : List A) (byte : ℕ) (rest : List ℕ) → AllByRecursion Fits xs → is_ascii_digit byte ≡ false → ends_list byte ≡ true
    → list_at item (list_field field xs ++ byte ∷ rest) ≡ Some (xs, byte ∷ rest)
unfolding list_at items_at
list_again are [] byte rest fit other ends = refl
list_again {item = item} {field = field} are (x ∷ xs) byte rest fit other ends =
    let behind = behind_commas field xs ++ byte ∷ rest in
    let commas : comma_count (field x ++ behind) ≡ length xs = are.calm x behind fit.0 ∙ commas_again are xs byte rest fit.1 ends in
    ap (list_at item) (append_assoc (field x) (behind_commas field xs) (byte ∷ rest))
    ∙ rw (are.apart x behind fit.0, item_again are x xs byte rest fit.0 other, commas, items_on-again are xs byte rest fit.1 other) refl

-- ---- numbers and parts

digit_apart : (d byte : ℕ) → is_ascii_digit d ≡ true → is_ascii_digit byte ≡ false → (d == byte) ≡ false
digit_apart d byte is other = ne_eqb d byte (λ same. absurd (let e = ap is_ascii_digit same in cc))

digits_calm : (ds more : List ℕ) → all_ascii_digits ds ≡ true → comma_count (ds ++ more) ≡ comma_count more
digits_calm [] more digits = refl
digits_calm (d ∷ ds) more digits =
    let first : is_ascii_digit d ≡ true = first_of_both (is_ascii_digit d) (all_ascii_digits ds) digits in
    rw (digit_apart d 32 first refl, digit_apart d 10 first refl, digit_apart d 44 first refl) (digits_calm ds more (second_of_both (is_ascii_digit d) (all_ascii_digits ds) digits))

pub are_edges : AreItems index_at decimal (λ edge. edge < 2 ^ 32)
are_edges = record {
  sound = index_sound;
  again = index_again;
  calm = λ x more fits. digits_calm (decimal x) more (decimal_digits x (omega arith));
  apart = λ x more fits. word_no x more 45 [] (omega arith) refl;
}

part_calm : (part : Part) (more : List ℕ) → FitsPart part → comma_count (part_field part ++ more) ≡ comma_count more
part_calm (From place) more fits = digits_calm (decimal place) more (decimal_digits place fits)
part_calm First more fits = refl
part_calm Nothing more fits = refl

part_apart : (part : Part) (more : List ℕ) → FitsPart part → word_at (codes "-") (part_field part ++ more) ≡ None
part_apart (From place) more fits = word_no place more 45 [] fits refl
part_apart First more fits = refl
part_apart Nothing more fits = refl

pub are_parts : AreItems part_at part_field FitsPart
are_parts = record { sound = part_sound; again = part_again; calm = part_calm; apart = part_apart }
