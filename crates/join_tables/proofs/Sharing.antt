-- Owners of one value, one more and one fewer.
use Rattle.std.proofs.Common.{◌≡◌, ℕ, ◌+◌, ◌<◌, List, [], ◌∷◌, ◌++◌, length, drop, take, subst, sym, refl, ap, arith, Vec}
use Rattle.std.proofs.lemmas.List.{length_push}
use Rattle.std.specs.Global.{Global}
use Rattle.std.specs.declared.sync.Arc.{Arc}
use Rattle.std.specs.Arc.{arc_value}
use Rattle.join_words.specs.declared.ins.Given.{Given}
use Rattle.join_words.specs.declared.ins.Given.TheVariants.{Value, First, Nothing}
use Rattle.table_steps.specs.Values.{ended_with}
use Rattle.join_tables.specs.declared.shares.Shares.{Shares}
use Rattle.join_tables.specs.declared.shares.Shares.TheVariants.{Bare, Linked}
use Rattle.join_tables.specs.inside.Sharing.{IsShareOf, AreParcelsOf, AreOwnersOf, AreSharesOf, AddsShare, IsOneFewer, IsParcelOf, placed}

module _ {V : Type 0} (value : V) where
  one_more : (xs : List (Given V)) (x : Given V) → IsShareOf value x → AreParcelsOf value xs → AreParcelsOf value (xs ++ x ∷ [])
  one_more [] x is are = (is, tt)
  one_more (y ∷ xs) x is are = (are.0, one_more xs x is are.1)

  pub adds_share : (xs : List (Given V)) (x : Given V) → IsShareOf value x → AddsShare value xs (xs ++ x ∷ [])
  adds_share xs x is = record { shares = one_more xs x is; count = length_push xs x }

  pub one_more_owner : {A : Type 0} (xs : List (Arc V A)) (x : Arc V A) → arc_value x ≡ value → AreOwnersOf value xs → AreOwnersOf value (xs ++ x ∷ [])
  one_more_owner [] x is are = (is, tt)
  one_more_owner (y ∷ xs) x is are = (are.0, one_more_owner xs x is are.1)

  fewer_owners : {A : Type 0} (xs : List (Arc V A)) (x : Arc V A) → AreOwnersOf value (xs ++ x ∷ []) → AreOwnersOf value xs × (arc_value x ≡ value)
  fewer_owners [] x are = (tt, are.0)
  fewer_owners (y ∷ xs) x are = let more = fewer_owners xs x are.1 in ((are.0, more.0), more.1)

  fewer_parcels : (xs : List (Given V)) → AreParcelsOf value xs → AreParcelsOf value (drop 1 xs)
  fewer_parcels [] are = tt
  fewer_parcels (x ∷ xs) are = are.1

  -- the last owner, in a bare parcel
  pub parcel_of_owner : (n : ℕ) (xs ys : List (Arc V Global)) (x : Arc V Global) → xs ≡ ys ++ x ∷ [] → AreOwnersOf value xs → IsParcelOf value n (Value n x ∷ [])
  parcel_of_owner n xs ys x is are = record { part = refl; has = ap (ended_with n) (fewer_owners ys x (subst (AreOwnersOf value) is are)).1 }

  -- and the first parcel
  pub first_parcel : (n : ℕ) (xs : List (Given V)) → 0 < length xs → AreParcelsOf value xs → IsParcelOf value n (placed n (take 1 xs))
  first_parcel n [] some are = absurd (omega (arith, some))
  first_parcel n (Value p s ∷ xs) some are = record { part = refl; has = ap (ended_with n) are.0 }
  first_parcel n (First ∷ xs) some are = absurd are.0
  first_parcel n (Nothing ∷ xs) some are = absurd are.0

pub one_owner_fewer : {V : Type 0} (before after : Vec (Arc V Global) Global) (x : Arc V Global) → before.items ≡ after.items ++ x ∷ [] → IsOneFewer (Bare before) (Bare after)
one_owner_fewer before after x is = record {
  count = omega (arith, length_push after.items x, ap length is);
  bare = refl;
  shares = λ value are. (fewer_owners value after.items x (subst (AreOwnersOf value) is are)).0;
}

pub one_parcel_fewer : {V : Type 0} (before : List (Given V)) → 0 < length before → IsOneFewer (Linked before) (Linked (drop 1 before))
one_parcel_fewer [] some = absurd (omega (arith, some))
one_parcel_fewer (x ∷ xs) some = record { count = omega arith; bare = refl; shares = λ value are. fewer_parcels value (x ∷ xs) are }
