-- What a source of named texts holds, what a read of one finds, and which reads have failed.
use Rattle.std.specs.Prelude.{◌≡◌, ℕ, ◌<◌, ◌≤◌, List, [], ◌∷◌, ◌++◌, length, Option, Some, None, IfSome, IsSomeAnd, Result, Err}
use Rattle.outside_io.specs.declared.ports.texts.Found.{Found}
use Rattle.outside_io.specs.declared.ports.texts.Found.TheVariants.{Text, Missing, Longer}
use Rattle.outside_io.specs.declared.ports.texts.TextsFault.{TextsFault}
use Rattle.outside_io.specs.declared.ports.texts.TextsFault.TheVariants.{Failed}

-- the texts that a source holds, where it specifies them
abbrev pub SourceTexts : Type 0
SourceTexts = Option (List ℕ → Option (List ℕ))

-- these bytes are held under the name, and are no more than may be read
abbrev pub IsHeld : SourceTexts → List ℕ → ℕ → List ℕ → Type 0
IsHeld held name max bytes = IfSome held (λ text. text name ≡ Some bytes) × (length bytes ≤ max)

-- What a read of at most `max` bytes finds under a name, where `held` is the text under that name.
abbrev pub Finds : Option (List ℕ) → ℕ → Found → Type 0
Finds held max (Text bytes) = (held ≡ Some bytes) × (length bytes ≤ max)
Finds held max Missing = held ≡ None
Finds held max Longer = IsSomeAnd held (λ bytes. max < length bytes)

-- A text that was found has at most `max` bytes.
abbrev pub IsWithin : ℕ → Found → Type 0
IsWithin max (Text bytes) = length bytes ≤ max
IsWithin max Missing = Unit {0}
IsWithin max Longer = Unit {0}

-- the names whose reads have failed, once a read of this name has answered so
abbrev pub failed_after : List (List ℕ) → List ℕ → Result Found TextsFault → List (List ℕ)
failed_after failed name (Err Failed) = failed ++ name ∷ []
failed_after failed name answer = failed
