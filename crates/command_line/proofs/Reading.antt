-- What a command finds among the arguments, by what `clap` answers.
use Rattle.std.proofs.Common.{subst, sym, ◌≡◌, true, false, refl, Some, None, Option, List, ℕ, [], ◌∷◌, ◌⊎◌, inl, inr}
use Rattle.std.specs.Prelude.{Result, IfOk, IfErr, ok_or, option_map, option_and_then}
use Rattle.std.specs.Str.{bytes_eq}
use Rattle.std.proofs.lemmas.Bool.{false_from_ne_true}
use Rattle.std.proofs.lemmas.Slice.Eq.{bytes_eq-Decides}
use Rattle.clap.specs.declared.error.Error.{Error}
use Rattle.clap.specs.declared.error.kind.ErrorKind.TheVariants.{OutOfMemory}
use Rattle.clap.specs.Walk.{Row}
use Rattle.clap.specs.declared.parser.matches.Found.{Found}
use Rattle.clap.proofs.WalkLemmas.{first_value-rows}
use Rattle.clap.specs.Words.{App, Kinds, HasKind, IsAmong, fault_of, first_of, first_value, is_simple, is_simple_and_free, kind_of, matches_of, rows_of}
use Rattle.command_line.specs.declared.request.ArgumentsError.{ArgumentsError}
use Rattle.command_line.specs.declared.request.ArgumentsError.TheVariants.{Refused}
use Rattle.command_line.specs.Requests.{Asked, rows_in}

-- the value of an id is that of its row
pub first_in_rows : (found : Found) (id : List ℕ) → first_value found id ≡ first_of id (rows_of found)
first_in_rows = first_value-rows

-- without a fault it finds its matches
pub found_rows : (app made : App) (words : List (List ℕ)) (rows : List Row) → made ≡ app → is_simple app ≡ true → is_simple_and_free app ≡ true
    → (is_simple_and_free made ≡ true → fault_of made words ≡ []) → (is_simple made ≡ true → rows ≡ matches_of made words) → rows_in app words ≡ Some rows
found_rows app made words rows is simple free no_fault found =
    let none : fault_of app words ≡ [] = subst (λ a. fault_of a words ≡ []) is (no_fault (subst (λ a. is_simple_and_free a ≡ true) (sym is) free)) in
    let these : rows ≡ matches_of app words = subst (λ a. rows ≡ matches_of a words) is (found (subst (λ a. is_simple a ≡ true) (sym is) simple)) in
    rw (none, these) refl

-- with one, unless memory ran out, it finds nothing
no_rows_among : (app : App) (words : List (List ℕ)) (kinds : Kinds) (error : Error) → fault_of app words ≡ kinds → IsAmong (kind_of error) kinds → rows_in app words ≡ None
no_rows_among app words [] error are among = absurd among
no_rows_among app words (k ∷ ks) error are among = rw are refl

pub no_rows : (app made : App) (words : List (List ℕ)) (error : Error) → made ≡ app → is_simple_and_free app ≡ true
    → (is_simple_and_free made ≡ true → HasKind (fault_of made words) error) → (kind_of error ≡ OutOfMemory → ⊥) → rows_in app words ≡ None
no_rows app made words error is free has memory = by_case (subst (λ a. HasKind (fault_of a words) error) is (has (subst (λ a. is_simple_and_free a ≡ true) (sym is) free)))
  where
    by_case : (kind_of error ≡ OutOfMemory) ⊎ IsAmong (kind_of error) (fault_of app words) → rows_in app words ≡ None
    by_case (inl out) = absurd (memory out)
    by_case (inr among) = no_rows_among app words (fault_of app words) error refl among

-- what the arguments of a command ask for is what its matches come to
pub asks : (asked_in : List Row → Option Asked) (app made : App) (words : List (List ℕ)) (rows : List Row) → made ≡ app → rows_in made words ≡ Some rows
    → option_and_then asked_in (rows_in app words) ≡ asked_in rows
asks asked_in app made words rows is found = subst (λ a. option_and_then asked_in (rows_in a words) ≡ asked_in rows) is (rw found refl)

pub asks_nothing : (asked_in : List Row → Option Asked) (app made : App) (words : List (List ℕ)) → made ≡ app → rows_in made words ≡ None
    → option_and_then asked_in (rows_in app words) ≡ None
asks_nothing asked_in app made words is none = subst (λ a. option_and_then asked_in (rows_in a words) ≡ None) is (rw none refl)

pub request_ok : {T : Type 0} (asked : T → Asked) (wanted : Option Asked) (found : Option T) (result : Result T ArgumentsError) → result ≡ ok_or found Refused
    → option_map asked found ≡ wanted → IfOk result (λ request. wanted ≡ Some (asked request))
request_ok asked wanted (Some request) result is made = rw is (sym made)
request_ok asked wanted None result is made = rw is tt

pub request_err : {T : Type 0} (asked : T → Asked) (wanted : Option Asked) (found : Option T) (result : Result T ArgumentsError) → result ≡ ok_or found Refused
    → option_map asked found ≡ wanted → IfErr result (λ error. error ≡ Refused → wanted ≡ None)
request_err asked wanted (Some request) result is made = rw is tt
request_err asked wanted None result is made = rw is (λ refused. sym made)

-- a text that isn't a command's name
pub other_text : (text name : List ℕ) → (text ≡ name → ⊥) → bytes_eq text name ≡ false
other_text text name other = false_from_ne_true (bytes_eq text name) (λ same. other ((bytes_eq-Decides text name).0 same))
