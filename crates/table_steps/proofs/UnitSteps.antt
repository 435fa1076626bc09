-- What the steps on unit words ask is met.
use Rattle.std.proofs.Common.{◌≡◌, ℕ, ◌+◌, ◌%◌, ◌<◌, ◌≤◌, List, [], ◌∷◌, arith}
use Rattle.table_steps.specs.declared.view.Note.{Note}
use Rattle.table_steps.specs.inside.Accounts.{Coord, weight, weigh, total}

pub weigh_less : (c d : Coord) → ((x : Note) → weight c x ≤ weight d x) → (v : List Note) → weigh c v ≤ weigh d v
weigh_less c d less [] = omega arith
weigh_less c d less (x ∷ xs) = omega (arith, less x, weigh_less c d less xs)

pub total_less : (c d : Coord) → ((x : Note) → weight c x ≤ weight d x) → (views : List (List Note)) → total c views ≤ total d views
total_less c d less [] = omega arith
total_less c d less (v ∷ vs) = omega (arith, weigh_less c d less v, total_less c d less vs)

-- one fewer
pub lowered : (n m : ℕ) → 1 ≤ n → n < 18446744073709551616 → (n + 18446744073709551615) % 18446744073709551616 + 1 ≡ n
lowered n m there small = omega (arith, there, small)
