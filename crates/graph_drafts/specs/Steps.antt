-- Steps of which the first refusal counts.
use Rattle.std.specs.Prelude.{List, [], ◌∷◌, Bool, Option, Some, None, Result, Ok, Err, if◌then◌else◌, ⊤}
use Rattle.graph_drafts.specs.declared.refusals.GraphError.{GraphError}

-- the next step, unless the one before refused
infixl 10 ◌>>=◌
abbrev pub ◌>>=◌ : {A B : Type 0} → Result A GraphError → (A → Result B GraphError) → Result B GraphError
(Ok x) >>= f = f x
(Err e) >>= f = Err e

-- a step for each item in order, from the state that the one before left
abbrev pub walk : {S A : Type 0} → (S → A → Result S GraphError) → S → List A → Result S GraphError
walk step s [] = Ok s
walk step s (x ∷ xs) = step s x >>= λ next. walk step next xs

-- this refusal, unless the test is passed
abbrev pub passed : Bool → GraphError → Result ⊤ GraphError
passed test refusal = if test then Ok tt else Err refusal

-- the refusal of what was found, if something was
abbrev pub unless : {A : Type 0} → Option A → (A → GraphError) → Result ⊤ GraphError
unless None refusal = Ok tt
unless (Some x) refusal = Err (refusal x)

-- what a step gives, with this refusal in place of its own
abbrev pub otherwise : {A : Type 0} → Result A GraphError → GraphError → Result A GraphError
otherwise (Ok x) refusal = Ok x
otherwise (Err e) refusal = Err refusal
