-- The first part of a start's inputs.
use Rattle.std.proofs.Common.{◌≡◌, ℕ, List, [], ◌∷◌, map, Some, None, refl}
use Rattle.std.specs.Prelude.{slice_get}
use Rattle.join_words.specs.declared.ins.Given.{Given}
use Rattle.join_words.specs.Ins.{found_of}
use Rattle.test_jobs.specs.NumberMeaning.{number_after, number_from}

pub on_some : (parts : List (Given ℕ)) (given : Given ℕ) → Some given ≡ slice_get parts 0 → number_after (found_of given) ≡ number_from (map found_of parts)
on_some [] given is = absurd (cc)
on_some (p ∷ ps) given is = let same : given ≡ p = cc in cc

pub on_none : (parts : List (Given ℕ)) → None ≡ slice_get parts 0 → 1 ≡ number_from (map (found_of {V = ℕ}) parts)
on_none [] is = refl
on_none (p ∷ ps) is = absurd (cc)
