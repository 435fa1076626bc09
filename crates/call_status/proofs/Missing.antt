-- Items that aren't there.
use Rattle.std.proofs.Common.{◌≡◌, ℕ, zero, suc, List, [], ◌∷◌, get_or, None, refl, sym}
use Rattle.std.specs.Prelude.{slice_get}
use Rattle.std.proofs.lemmas.Option.{none-some}

-- where a list has no item of this number, the other one is found
pub missing : {X : Type 0} (xs : List X) (i : ℕ) (other : X) → slice_get xs i ≡ None → get_or xs i other ≡ other
missing [] i other none = refl
missing (x ∷ xs) zero other none = absurd (none-some x (sym none))
missing (x ∷ xs) (suc i) other none = missing xs i other none
