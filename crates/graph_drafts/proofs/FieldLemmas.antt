-- The fields of an object, beside the map that sorts them.
use Rattle.std.proofs.Common.{◌≡◌, ℕ, ◌+◌, ◌<◌, List, [], ◌∷◌, ◌++◌, map, length, take, get_or, Bool, true, false, not, ◌||◌, cond, Option, Some, None, Ordering, Less, Equal, Greater, nat_cmp, BTreeMap, String, Global, string_bytes, Bor, option_map, refl, ap, sym, ◌∙◌, bytes_eq}
use Rattle.std.proofs.lemmas.List.{take_more}
use Rattle.std.proofs.lemmas.List.Folds.{list_any-append}
use Rattle.std.specs.Cmp.Lexicographic.{slice_cmp}
use Rattle.std.specs.List.{find, list_all, list_any}
use Rattle.std.specs.Map as entries
use Rattle.std.specs.Ordering.{match_ordering}
use Rattle.serde_json.specs.Data.{Data, Members, no_members, member, put}
use Rattle.serde_json.specs.View.{members_view}
use Rattle.serde_json.specs.declared.value.Value.{Value}
use Rattle.json_values.specs.inside.View.{members_view as lent_members, put_all, view}
use Rattle.json_values.proofs.Views.{Member, members_view-push}
use Rattle.graph_drafts.specs.Fields.{keys_of, is_unknown}

list_any-map : {A B : Type 0} (f : A → B) (test : B → Bool) (xs : List A) → list_any test (map f xs) ≡ list_any (λ x. test (f x)) xs
list_any-map f test [] = refl
list_any-map f test (x ∷ xs) = rw (list_any-map f test xs) refl

-- a field is known where one of two lists has it
pub is_unknown_two : (common own : List (Bor (List ℕ))) (key : List ℕ)
    → is_unknown (map (λ s. s.now) common ++ map (λ s. s.now) own) key ≡ not (list_any (λ field. bytes_eq field.now key) common || list_any (λ field. bytes_eq field.now key) own)
is_unknown_two common own key =
    ap not (list_any-append (λ field. bytes_eq field key) (map (λ s. s.now) common) (map (λ s. s.now) own)
    ∙ rw (list_any-map (λ s. s.now) (λ field. bytes_eq field key) common, list_any-map (λ s. s.now) (λ field. bytes_eq field key) own) refl)

key_step : (b : Bool) (k : String Global) (found : Option (String Global)) (later : Option (List ℕ)) → later ≡ option_map string_bytes found
    → cond b (Some (string_bytes k)) later ≡ option_map string_bytes (cond b (Some k) found)
key_step true k found later e = refl
key_step false k found later e = e

-- the first unknown field is the first unknown key of the map
find-keys : (fields : List (List ℕ)) (es : List (String Global × Value))
    → find (is_unknown fields) (keys_of (members_view es)) ≡ option_map string_bytes (find (λ k. is_unknown fields (string_bytes k)) (entries.keys_of es))
find-keys fields [] = refl
find-keys fields (e ∷ es) = key_step (is_unknown fields (string_bytes e.0)) e.0 _ _ (find-keys fields es)

pub unknown-keys : (fields : List (List ℕ)) (m : BTreeMap (String Global) Value) (key : Option (String Global))
    → key ≡ find (λ k. is_unknown fields (string_bytes k)) (entries.keys_of m.entries) → option_map string_bytes key ≡ find (is_unknown fields) (keys_of (members_view m.entries))
unknown-keys fields m key found = ap (option_map string_bytes) found ∙ sym (find-keys fields m.entries)

-- ---- keys that are put in one after another

-- keys, with k among them
abbrev put_key : List ℕ → List (List ℕ) → List (List ℕ)
put_key k [] = k ∷ []
put_key k (l ∷ ls) = match_ordering (slice_cmp nat_cmp k l) (k ∷ l ∷ ls) (l ∷ ls) (l ∷ put_key k ls)

keys_of-match : (o : Ordering) (a b c : Members) → keys_of (match_ordering o a b c) ≡ match_ordering o (keys_of a) (keys_of b) (keys_of c)
keys_of-match Less a b c = refl
keys_of-match Equal a b c = refl
keys_of-match Greater a b c = refl

keys_of-put : (k : List ℕ) (d : Data) (ms : Members) → keys_of (put k d ms) ≡ put_key k (keys_of ms)
keys_of-put k d no_members = refl
keys_of-put k d (member l e ms) = keys_of-match (slice_cmp nat_cmp k l) _ _ _ ∙ rw (keys_of-put k d ms) refl

-- which keys there are depends on no value
pub keys_of-put-same : (k : List ℕ) (d e : Data) (ms ns : Members) → keys_of ms ≡ keys_of ns → keys_of (put k d ms) ≡ keys_of (put k e ns)
keys_of-put-same k d e ms ns same = keys_of-put k d ms ∙ ap (put_key k) same ∙ sym (keys_of-put k e ns)

-- the keys of one member more
pub keys_of-more : (ms : List Member) (i : ℕ) (m : Member) (d : Data) (tree : Members) → i < length ms → m ≡ get_or ms i m → keys_of tree ≡ keys_of (lent_members (take i ms))
    → keys_of (put m.0.now d tree) ≡ keys_of (lent_members (take (i + 1) ms))
keys_of-more ms i m d tree within is so_far =
    let next : take (i + 1) ms ≡ take i ms ++ m ∷ [] = take_more ms i m within ∙ ap (λ y. take i ms ++ y ∷ []) (sym is) in
    keys_of-put-same m.0.now d (view m.1) tree (lent_members (take i ms)) so_far ∙ ap keys_of (sym (members_view-push (take i ms) m) ∙ ap lent_members (sym next))

split-none : {A : Type 0} (b : Bool) (x : A) (rest : Option A) → cond b (Some x) rest ≡ None → (b ≡ false) × (rest ≡ None)
split-none true x rest none = cc
split-none false x rest none = (refl, none)

none-put-at : (o : Ordering) (p : List ℕ → Bool) (k l : List ℕ) (d e : Data) (ms : Members) → p k ≡ false → find p (l ∷ keys_of ms) ≡ None
    → (find p (keys_of ms) ≡ None → find p (keys_of (put k d ms)) ≡ None)
    → find p (keys_of (match_ordering o (member k d (member l e ms)) (member l d ms) (member l e (put k d ms)))) ≡ None
none-put-at Less p k l d e ms is none later = rw is none
none-put-at Equal p k l d e ms is none later = none
none-put-at Greater p k l d e ms is none later = let both = split-none (p l) l (find p (keys_of ms)) none in rw both.0 (later both.1)

none-put : (p : List ℕ → Bool) (k : List ℕ) (d : Data) (ms : Members) → p k ≡ false → find p (keys_of ms) ≡ None → find p (keys_of (put k d ms)) ≡ None
none-put p k d no_members is none = rw is refl
none-put p k d (member l e ms) is none = none-put-at (slice_cmp nat_cmp k l) p k l d e ms is none (none-put p k d ms is)

not_true : (b : Bool) → not b ≡ true → b ≡ false
not_true true is = cc
not_true false is = refl

split-all : {A : Type 0} (test : A → Bool) (x : A) (xs : List A) (b : Bool) → test x ≡ b → list_all test (x ∷ xs) ≡ true → (test x ≡ true) × (list_all test xs ≡ true)
split-all test x xs true is all = (is, rw is at all)
split-all test x xs false is all = let no : false ≡ true = rw is at all in cc

none-all : (p : List ℕ → Bool) (ms : List Member) (before : Members) → list_all (λ (m : Member). not (p m.0.now)) ms ≡ true → find p (keys_of before) ≡ None
    → find p (keys_of (put_all (map (λ m. (m.0, view m.1)) ms) before)) ≡ None
none-all p [] before all none = none
none-all p (m ∷ ms) before all none =
    let both = split-all (λ (m : Member). not (p m.0.now)) m ms (not (p m.0.now)) refl all in
    none-all p ms (put m.0.now (view m.1) before) both.1 (none-put p m.0.now (view m.1) before (not_true (p m.0.now) both.0) none)

-- where each key is known, no field is unknown
pub find_known : (fields : List (List ℕ)) (ms : List Member) → list_all (λ (m : Member). not (is_unknown fields m.0.now)) ms ≡ true → find (is_unknown fields) (keys_of (lent_members ms)) ≡ None
find_known fields ms all = none-all (is_unknown fields) ms no_members all refl
