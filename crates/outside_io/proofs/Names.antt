-- Names of which no two are the same.
use Rattle.std.proofs.Common.{◌≡◌, ◌≢◌, ◌<◌, ℕ, ◌+◌, Bool, true, false, List, [], ◌∷◌, ◌++◌, length, take, get_or, slice_index_or, slice_get, Some, AllPairs, Contains, bytes_eq, position, refl, ap, sym, ◌∙◌, arith}
use Rattle.std.specs.List.{position_or_len}
use Rattle.std.proofs.lemmas.Bool.{lt-ltb}
use Rattle.std.proofs.lemmas.List.{get_or_default, take_more}
use Rattle.std.proofs.lemmas.List.Quantifiers.{all_pairs_push}
use Rattle.std.proofs.lemmas.List.Sums.{position_or_len_is}
use Rattle.std.proofs.lemmas.Slice.Eq.{bytes_eq-Decides}
use Rattle.outside_io.specs.MemoryTexts.{AreNamed, text_under}

-- A test that isn't true is false.
refuted : (test : Bool) → (test ≡ true → ⊥) → test ≡ false
refuted true never = absurd (never refl)
refuted false never = refl

-- The place of the name at a place is that place.
position-name : (names : List (List ℕ)) (place : ℕ) → AllPairs (λ name other. name ≢ other) names → place < length names
    → position (λ held. bytes_eq held (get_or names place [])) names ≡ Some place
position-name names place differ within =
    let name : List ℕ = get_or names place [] in
    let earlier : (k : ℕ) → k < place → bytes_eq (get_or names k []) name ≡ false =
    λ k less. refuted (bytes_eq (get_or names k []) name) (λ same. differ k place [] less within ((bytes_eq-Decides (get_or names k []) name).0 same)) in
    let first : position_or_len (λ held. bytes_eq held name) names ≡ place =
    position_or_len_is (λ held. bytes_eq held name) names place [] (omega arith) earlier (λ _. (bytes_eq-Decides name name).1 refl) in
    rw (first, lt-ltb place (length names) within) refl

-- Each text is held under its name.
pub text_under-name : (names texts : List (List ℕ)) (place : ℕ) → AreNamed names texts → place < length names
    → text_under names texts (slice_index_or names place []) ≡ slice_get texts place
text_under-name names texts place named within = rw (position-name names place named.differ within) refl

-- Names that differ go on to differ where the next one isn't among them.
pub differ_more : (names : List (List ℕ)) (place : ℕ) (name : List ℕ) → place < length names → name ≡ slice_index_or names place name
    → AllPairs (λ name other. name ≢ other) (take place names) → (Contains (take place names) name → ⊥)
    → AllPairs (λ name other. name ≢ other) (take (place + 1) names)
differ_more names place name within is differ new =
    let more : take (place + 1) names ≡ take place names ++ name ∷ [] = take_more names place name within ∙ ap (λ last. take place names ++ last ∷ []) (sym is) in
    rw more (all_pairs_push (λ name other. name ≢ other) (take place names) name differ
    (λ k d less same. new (k, less, get_or_default (take place names) k name d less ∙ same)))
