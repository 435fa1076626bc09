-- The items that are parked in a yard wait where they are.
use Rattle.std.proofs.Common.{◌≡◌, ℕ, ◌<◌, List, [], ◌∷◌, length, subst, sym, ap, ◌∙◌}
use Rattle.std.specs.Prelude.{All, IfSome, slice_get, slice_index_or}
use Rattle.std.proofs.lemmas.List.{get_or_read}
use Rattle.std.proofs.lemmas.List.Elements.{All-head}
use Rattle.semaphore_park.specs.Parking.{YardView, parked_on}
use Rattle.semaphore_park.specs.inside.Waiting.{AllWait}

-- a fact of each item is one of the first
first_of : {T : Type 0} (p : T → Type 0) (items : List T) → All p items → IfSome (slice_get items 0) p
first_of p [] each = tt
first_of p (item ∷ items) each = All-head p item items each

module _ {T H : Type 0} (waits_at : T → H → ℕ → Type 0) where
  -- the first item of the list that was read at a semaphore
  pub first_waits : (opened yard : YardView T H) (sem : ℕ) (list : List T) → opened ≡ yard → AllWait waits_at opened → sem < length yard.lists
      → list ≡ slice_index_or opened.lists sem list → IfSome (slice_get list 0) (λ item. waits_at item yard.home sem)
  first_waits opened yard sem list same each in_range read =
      let here = get_or_read opened.lists sem list (subst (λ (y : YardView T H). sem < length y.lists) (sym same) in_range) read [] in
      let there : list ≡ parked_on yard sem = here ∙ ap (λ (y : YardView T H). parked_on y sem) same in
      let waits : IfSome (slice_get (parked_on yard sem) 0) (λ item. waits_at item yard.home sem) = first_of (λ item. waits_at item yard.home sem) (parked_on yard sem) (subst (AllWait waits_at) same each sem) in
      subst (λ (items : List T). IfSome (slice_get items 0) (λ item. waits_at item yard.home sem)) (sym there) waits
