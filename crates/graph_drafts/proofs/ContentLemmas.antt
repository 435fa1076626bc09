-- What holds of the contents of fields.
use Rattle.std.proofs.Common.{◌≡◌, ℕ, List, [], ◌∷◌, map, Bool, true, Some, refl, ap}
use Rattle.std.specs.List.{list_all}
use Rattle.serde_json.specs.Data.{Data}
use Rattle.serde_json.specs.Find.{as_array}
use Rattle.json_values.specs.inside.View.{view, items_view}
use Rattle.json_values.specs.declared.value.Value.{Value}
use Rattle.graph_drafts.specs.Contents.{listed, list_of}
use Rattle.std.proofs.lemmas.Str.{is_utf8-from_IsUtf8}
use Rattle.std.specs.Str.{IsUtf8, is_utf8}

pub listed-items_view : (vs : List Value) → listed (items_view vs) ≡ map view vs
listed-items_view [] = refl
listed-items_view (v ∷ vs) = ap (λ ds. view v ∷ ds) (listed-items_view vs)

pub list_of-array : (d : Data) (vs : List Value) → Some (items_view vs) ≡ as_array d → list_of d ≡ Some (map view vs)
list_of-array d vs is = rw (← is) (ap Some (listed-items_view vs))

pub list_all-map : {A B : Type 0} (f : A → B) (test : B → Bool) (xs : List A) → list_all test (map f xs) ≡ list_all (λ x. test (f x)) xs
list_all-map f test [] = refl
list_all-map f test (x ∷ xs) = rw (list_all-map f test xs) refl

pub ruleset lists = (list_of-array, list_all-map)

pub text_is_utf8 : (text : List ℕ) → IsUtf8 text → is_utf8 text ≡ true
text_is_utf8 = is_utf8-from_IsUtf8
