-- What the seats count in all, after one seat changed.
use Rattle.std.proofs.Common.{◌≡◌, ℕ, zero, suc, ◌+◌, List, [], ◌∷◌, ◌++◌, set, sym, ap, arith}
use mathlib.Core.Option.{some, some-injective, some-ne-none}
use lib.ListN.{get_elem?}
use Rattle.table_steps.specs.declared.view.Note.{Note}
use Rattle.table_steps.specs.inside.Accounts.{Coord, weigh, total}

pub weigh_append : (c : Coord) (xs ys : List Note) → weigh c (xs ++ ys) ≡ weigh c xs + weigh c ys
weigh_append c [] ys = omega arith
weigh_append c (x ∷ xs) ys = omega (arith, weigh_append c xs ys)

pub total_set : (c : Coord) (views : List (List Note)) (id : ℕ) (v w : List Note) → get_elem? views id ≡ some v → total c (set views id w) + weigh c v ≡ total c views + weigh c w
total_set c [] id v w e = absurd (some-ne-none v (sym e))
total_set c (x ∷ xs) zero v w e = let is : weigh c x ≡ weigh c v = ap (weigh c) (some-injective x v e) in omega arith
total_set c (x ∷ xs) (suc id) v w e = omega (arith, total_set c xs id v w e)

pub total_push : (c : Coord) (views : List (List Note)) (w : List Note) → total c (views ++ w ∷ []) ≡ total c views + weigh c w
total_push c [] w = omega arith
total_push c (x ∷ xs) w = omega (arith, total_push c xs w)

-- one seat did what takes these notes for those
pub total_swap : (c : Coord) (views : List (List Note)) (id : ℕ) (old new rest : List Note) → get_elem? views id ≡ some (old ++ rest) → total c (set views id (new ++ rest)) + weigh c old ≡ total c views + weigh c new
total_swap c views id old new rest e = omega (arith, total_set c views id (old ++ rest) (new ++ rest) e, weigh_append c old rest, weigh_append c new rest)
