-- What the definitions of values say on small values.
use Rattle.std.proofs.Common.{◌≡◌, ℕ, List, [], ◌∷◌, ◌++◌, map, Some, cond, refl, ap, arith}
use Rattle.std.specs.Prelude.{◌==◌, unwrap_or}
use Rattle.join_words.specs.declared.ins.Given.{Given}
use Rattle.join_words.specs.declared.ins.Given.TheVariants.{First as FirstToken, Nothing as NoValue}
use Rattle.journal_rules.specs.declared.entry.Part.TheVariants.{First, Nothing}
use Rattle.table_steps.specs.declared.view.EndValue.{EndValue}
use Rattle.table_steps.specs.Values.{given_part, values_in, ended_with, Knows, HaveOneValueEach}
use Rattle.table_steps.proofs.Values.{values_agree, knows_self, knows_back}

-- the End at place 3 has the value 7, and that at place 5 the value 8
abbrev two : List (EndValue ℕ)
two = ended_with 3 7 ++ ended_with 5 8

two_ends : HaveOneValueEach two
two_ends = record { value_at = λ n. cond (n == 3) (Some 7) (Some 8); all = (refl, (refl, tt)) }

-- one End hasn't two values
abbrev twice : List (EndValue ℕ)
twice = ended_with 3 7 ++ ended_with 3 8

one_end : HaveOneValueEach twice → ⊥
one_end one = let same : ◌≡◌ {A = ℕ} 7 8 = values_agree twice 0 1 (record { place = 3; value = 7 }) (record { place = 3; value = 8 }) one refl refl refl in omega (arith, same)

-- who knows two values knows each, and no other value of one of these Ends
each_known : Knows two (ended_with 5 8)
each_known = knows_back two (ended_with 3 7) (ended_with 5 8) (knows_self two)

no_other : Knows two (ended_with 5 9) → ⊥
no_other known = let other = known.follow (λ n. cond (n == 3) (Some 7) (Some 8)) (refl, (refl, tt)) in omega (arith, ap (λ o. unwrap_or o 0) other.0)

-- the token with which an edge begins has no value
abbrev tokens : List (Given ℕ)
tokens = FirstToken ∷ NoValue ∷ []

no_values : values_in tokens ≡ []
no_values = refl

their_parts : map given_part tokens ≡ First ∷ Nothing ∷ []
their_parts = refl
