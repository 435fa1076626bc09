-- Named texts in memory.
use Rattle.std.specs.Prelude.{◌≡◌, ◌≢◌, ℕ, ◌+◌, List, [], ◌∷◌, ◌++◌, length, AllPairs, Option, option_and_then, position, bytes_eq, slice_get, Contains, Result, Ok, Err}
use Rattle.outside_io.specs.declared.ports.texts.Found.{Found}
use Rattle.outside_io.specs.declared.ports.texts.TextsFault.{TextsFault}
use Rattle.outside_io.specs.declared.ports.texts.TextsFault.TheVariants.{Failed, NoMemory}

-- The texts under their names, the numbers of the calls that are to fail, how many calls there were, and the names of
-- those that failed.
pub record HeldTexts : Type 0 where
  pub names : List (List ℕ)
  pub texts : List (List ℕ)
  pub failing : List ℕ
  pub calls : ℕ
  pub failed : List (List ℕ)

-- Each text has a name, and no two have the same.
pub record AreNamed (names texts : List (List ℕ)) : Type 0 where
  pub paired : length names ≡ length texts
  pub differ : AllPairs (λ name other. name ≢ other) names

-- The text under a name: that at the name's place.
abbrev pub text_under : List (List ℕ) → List (List ℕ) → List ℕ → Option (List ℕ)
text_under names texts name = option_and_then (λ place. slice_get texts place) (position (λ held. bytes_eq held name) names)

-- What a call on a name answers and leaves. It fails exactly where its number is one of those that it was told, and its
-- name is added. After a failed allocation all is as before. Where the numbers have run out it answers `NoMemory`.
abbrev pub CountsCall : HeldTexts → HeldTexts → List ℕ → Result Found TextsFault → Type 0
CountsCall old new name (Ok found) = ¬ Contains old.failing old.calls × (new ≡ record old { calls = old.calls + 1 })
CountsCall old new name (Err Failed) =
    Contains old.failing old.calls × (new ≡ record old { calls = old.calls + 1; failed = old.failed ++ name ∷ [] })
CountsCall old new name (Err NoMemory) = new ≡ old
