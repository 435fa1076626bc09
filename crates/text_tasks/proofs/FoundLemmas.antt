-- The texts at a task's edges, from an edge on.
use Rattle.std.proofs.Common.{inl, inr, min, ◌-◌, ◌<◌, ◌≡◌, ℕ, zero, suc, ◌+◌, ◌≤◌, List, [], ◌∷◌, ◌++◌, length, drop, refl, sym, ap, ◌∙◌, arith, append_assoc}
use Rattle.std.specs.Prelude.{slice_get}
use Rattle.std.specs.Option.{option_map_or}
use Rattle.std.proofs.lemmas.Bool.{cases_lt}
use Rattle.std.proofs.Math.ListN.{drop_of_length-le}
use Rattle.std.proofs.lemmas.List.{length-map}
use Rattle.join_words.specs.declared.ins.Ins.{Ins}
use Rattle.join_words.specs.Ins.{InputValue, parts_of, found_of}
use Rattle.text_tasks.specs.declared.item.Item.{Item}
use Rattle.text_tasks.specs.FoundTexts.{found_text, text_found, left_found, right_found}
use Rattle.text_tasks.specs.inside.Finding.{founds, text_of_edge, text_from}

text_at_front : (xs : List (InputValue Item)) (k : ℕ) → text_found (drop k xs) ≡ option_map_or found_text (slice_get xs k) [] ++ text_found (drop (suc k) xs)
text_at_front [] zero = refl
text_at_front [] (suc k) = refl
text_at_front (x ∷ xs) zero = refl
text_at_front (x ∷ xs) (suc k) = text_at_front xs k

-- the text at an edge, and those behind it
pub text_from_next : (ins : Ins Item) (place : ℕ) → text_from ins place ≡ text_of_edge ins place ++ text_from ins (place + 1)
text_from_next ins place =
    let next : place + 1 ≡ suc place = omega arith in
    text_at_front (founds ins) place ∙ ap (λ k. text_of_edge ins place ++ text_from ins k) (sym next)

-- no text stands behind the last edge
pub text_from_end : (ins : Ins Item) (place : ℕ) → length (parts_of ins) ≤ place → text_from ins place ≡ []
text_from_end ins place past = ap text_found (drop_of_length-le (founds ins) (omega (arith, length-map (parts_of ins) (found_of {V = Item}))))

-- the first text, and the others
left_of : (xs : List (InputValue Item)) → left_found xs ≡ option_map_or found_text (slice_get xs 0) []
left_of [] = refl
left_of (x ∷ xs) = refl

right_of : (xs : List (InputValue Item)) → right_found xs ≡ text_found (drop 1 xs)
right_of [] = refl
right_of (x ∷ xs) = refl

pub left_found_first : (ins : Ins Item) → left_found (founds ins) ≡ text_of_edge ins 0
left_found_first ins = left_of (founds ins)

pub right_found_from : (ins : Ins Item) → right_found (founds ins) ≡ text_from ins 1
right_found_from ins = right_of (founds ins)

-- what was put together, with the text at the next edge
pub together_next : (made : List ℕ) (ins : Ins Item) (place : ℕ) → (made ++ text_of_edge ins place) ++ text_from ins (place + 1) ≡ made ++ text_from ins place
together_next made ins place = append_assoc made (text_of_edge ins place) (text_from ins (place + 1)) ∙ ap (λ rest. made ++ rest) (sym (text_from_next ins place))

-- where no edge stands between two places, the texts from either on are the same
pub text_from_same : (ins : Ins Item) (from place : ℕ) → place ≤ from → min from (length (parts_of ins)) ≤ place → text_from ins place ≡ text_from ins from
text_from_same ins from place low high = elim (cases_lt from (length (parts_of ins))) [
  | inl below ↦ let same : place ≡ from = omega (arith, below) in ap (text_from ins) same
  | inr past ↦ text_from_end ins place (omega (arith, past)) ∙ sym (text_from_end ins from past)
]

-- the text at the edge before, and those from a place on
pub text_from_before : (ins : Ins Item) (place : ℕ) → 0 < place → text_from ins (place - 1) ≡ text_of_edge ins (place - 1) ++ text_from ins place
text_from_before ins place some = let same : place - 1 + 1 ≡ place = omega arith in text_from_next ins (place - 1) ∙ ap (λ k. text_of_edge ins (place - 1) ++ text_from ins k) same
