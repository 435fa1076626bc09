-- Sets of names and maps to places, by the names' bytes.
use Rattle.std.proofs.Common.{◌≡◌, ℕ, List, Bool, true, false, cond, Option, Some, None, Bor, refl, ap, ◌∙◌, bytes_eq}
use Rattle.std.proofs.lemmas.Cmp.{nat_list_eq_equiv}
use Rattle.std.proofs.lemmas.Slice.Eq.{bytes_eq-Decides}
use Rattle.std.specs.HashMap as hash
use Rattle.std.specs.HashMap.{HashMap}
use Rattle.std.specs.Option.{option_or}
use Rattle.graph_file.specs.inside.Lookups.{KeepsPlace, place_in}

abbrev same_name : Bor (List ℕ) → Bor (List ℕ) → Bool
same_name a b = bytes_eq a.now b.now

-- a reference to these bytes
abbrev some_ref : List ℕ → Bor (List ℕ)
some_ref bytes = record { ref_ptr = (0, 0); now = bytes }

kept_or : (a b : Bool) (found : Option ℕ) (place : ℕ) → a ≡ b → (b ≡ true → found ≡ None) → cond a (Some place) found ≡ option_or found (cond b (Some place) None)
kept_or true true found place same none = rw (none refl) refl
kept_or false false None place same none = refl
kept_or false false (Some p) place same none = refl
kept_or true false found place same none = cc
kept_or false true found place same none = cc

pub KeepsPlace-updates : {S : Type 0} (old new : HashMap (Bor (List ℕ)) ℕ S) (name : Bor (List ℕ)) (place : ℕ) → place_in old name.now ≡ None → hash.Updates same_name old new name (Some place)
    → KeepsPlace old name.now place new
KeepsPlace-updates old new name place none updates q =
    updates.0 (some_ref q) ∙ kept_or _ _ _ place (nat_list_eq_equiv.symm name.now q) (λ same. ap (place_in old) ((bytes_eq-Decides q name.now).0 same) ∙ none)

-- a place that was kept, put aside and kept again
again_step : (here : Bool) (found : Option ℕ) (first place : ℕ) → (here ≡ true → found ≡ Some first) → cond here (Some first) (cond here (Some place) found) ≡ option_or found (cond here (Some place) None)
again_step true found first place kept = rw (kept refl) refl
again_step false None first place kept = refl
again_step false (Some p) first place kept = refl

pub KeepsPlace-again : {S : Type 0} (old middle new : HashMap (Bor (List ℕ)) ℕ S) (name : Bor (List ℕ)) (place first : ℕ) → place_in old name.now ≡ Some first
    → hash.Updates same_name old middle name (Some place) → hash.Updates same_name middle new name (Some first) → KeepsPlace old name.now place new
KeepsPlace-again old middle new name place first kept put back q =
    back.0 (some_ref q) ∙ ap (λ found. cond (bytes_eq name.now q) (Some first) found) (put.0 (some_ref q))
    ∙ rw (nat_list_eq_equiv.symm name.now q) (again_step (bytes_eq q name.now) (place_in old q) first place (λ same. ap (place_in old) ((bytes_eq-Decides q name.now).0 same) ∙ kept))
