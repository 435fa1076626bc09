-- What the asks and the turns of a history are after one entry more.
use Rattle.std.proofs.Common.{◌≡◌, ◌≢◌, ℕ, zero, suc, ◌+◌, ◌<◌, ◌≤◌, Bool, true, false, cond, eqb, List, [], ◌∷◌, ◌++◌, length, filter, set, refl, ap, ◌∙◌, arith}
use Rattle.std.specs.Prelude.{sum_by}
use Rattle.std.proofs.lemmas.Bool.Decides.{nat_tests}
use Rattle.std.proofs.lemmas.List.{append-nil}
use Rattle.std.proofs.lemmas.List.Elements.{filter-append}
use Rattle.std.proofs.lemmas.List.Sums.{sum_by-cons}
use Rattle.desk_book.specs.declared.entry.Ask.{Ask}
use Rattle.desk_book.specs.declared.entry.DeskEntry.{DeskEntry}
use Rattle.desk_book.specs.declared.entry.DeskEntry.TheVariants.{Asked, Took, Ended}
use Rattle.desk_book.specs.declared.turn.Turn.{Turn}
use Rattle.desk_book.specs.declared.turn.Turn.TheVariants.{Waiting, Open, Over}
use Rattle.desk_book.specs.Histories.{asks_of, asks_by, turn_after, turn_from, turn_of}
use Rattle.desk_book.specs.inside.Looks.{turn_at}
use Rattle.desk_book.specs.inside.Keeps.{entries_left}

-- the asks
asks_append : (front back : List DeskEntry) → asks_of (front ++ back) ≡ asks_of front ++ asks_of back
asks_append [] back = refl
asks_append (Asked ask ∷ front) back = ap (λ rest. ask ∷ rest) (asks_append front back)
asks_append (Took n ∷ front) back = asks_append front back
asks_append (Ended n whole ∷ front) back = asks_append front back

pub asks_asked : (history : List DeskEntry) (ask : Ask) → asks_of (history ++ Asked ask ∷ []) ≡ asks_of history ++ ask ∷ []
asks_asked history ask = asks_append history (Asked ask ∷ [])

pub asks_took : (history : List DeskEntry) (n : ℕ) → asks_of (history ++ Took n ∷ []) ≡ asks_of history
asks_took history n = asks_append history (Took n ∷ []) ∙ append-nil (asks_of history)

pub asks_ended : (history : List DeskEntry) (n : ℕ) (whole : Bool) → asks_of (history ++ Ended n whole ∷ []) ≡ asks_of history
asks_ended history n whole = asks_append history (Ended n whole ∷ []) ∙ append-nil (asks_of history)

-- the turns
turn_push_from : (history : List DeskEntry) (entry : DeskEntry) (n : ℕ) (turn : Turn) → turn_from n turn (history ++ entry ∷ []) ≡ turn_after n (turn_from n turn history) entry
turn_push_from [] entry n turn = refl
turn_push_from (x ∷ history) entry n turn = turn_push_from history entry n (turn_after n turn x)

pub turn_push : (history : List DeskEntry) (entry : DeskEntry) (n : ℕ) → turn_of (history ++ entry ∷ []) n ≡ turn_after n (turn_of history n) entry
turn_push history entry n = turn_push_from history entry n Waiting

pub turn_took_here : (history : List DeskEntry) (n : ℕ) → turn_of (history ++ Took n ∷ []) n ≡ Open
turn_took_here history n =
    let hit : eqb n n ≡ true = grind (arith, nat_tests) in
    turn_push history (Took n) n ∙ ap (λ b. cond b Open (turn_of history n)) hit

pub turn_took_other : (history : List DeskEntry) (n m : ℕ) → m ≢ n → turn_of (history ++ Took n ∷ []) m ≡ turn_of history m
turn_took_other history n m other =
    let miss : eqb n m ≡ false = grind (arith, nat_tests) in
    turn_push history (Took n) m ∙ ap (λ b. cond b Open (turn_of history m)) miss

pub turn_ended_here : (history : List DeskEntry) (n : ℕ) (whole : Bool) → turn_of (history ++ Ended n whole ∷ []) n ≡ Over whole
turn_ended_here history n whole =
    let hit : eqb n n ≡ true = grind (arith, nat_tests) in
    turn_push history (Ended n whole) n ∙ ap (λ b. cond b (Over whole) (turn_of history n)) hit

pub turn_ended_other : (history : List DeskEntry) (n m : ℕ) (whole : Bool) → m ≢ n → turn_of (history ++ Ended n whole ∷ []) m ≡ turn_of history m
turn_ended_other history n m whole other =
    let miss : eqb n m ≡ false = grind (arith, nat_tests) in
    turn_push history (Ended n whole) m ∙ ap (λ b. cond b (Over whole) (turn_of history m)) miss

-- one that waits after more entries waited before them
after_waits : (n : ℕ) (turn : Turn) (entry : DeskEntry) → turn_after n turn entry ≡ Waiting → turn ≡ Waiting
after_waits n turn (Asked ask) waits = waits
after_waits n turn (Took m) waits = by_test (eqb m n) waits
  where
    by_test : (b : Bool) → cond b Open turn ≡ Waiting → turn ≡ Waiting
    by_test true is = absurd (cc)
    by_test false is = is
after_waits n turn (Ended m whole) waits = by_test (eqb m n) waits
  where
    by_test : (b : Bool) → cond b (Over whole) turn ≡ Waiting → turn ≡ Waiting
    by_test true is = absurd (cc)
    by_test false is = is

from_waits : (n : ℕ) (turn : Turn) (more : List DeskEntry) → turn_from n turn more ≡ Waiting → turn ≡ Waiting
from_waits n turn [] waits = waits
from_waits n turn (entry ∷ more) waits = after_waits n turn entry (from_waits n (turn_after n turn entry) more waits)

pub waited_before : (n : ℕ) (turn : Turn) (front more : List DeskEntry) → turn_from n turn (front ++ more) ≡ Waiting → turn_from n turn front ≡ Waiting
waited_before n turn [] more waits = from_waits n turn more waits
waited_before n turn (entry ∷ front) more waits = waited_before n (turn_after n turn entry) front more waits

-- turns as they are written down
pub turn_at_set : (turns : List Turn) (n : ℕ) (turn : Turn) → n < length turns → turn_at (set turns n turn) n ≡ turn
turn_at_set [] n turn below = absurd (omega arith)
turn_at_set (t ∷ ts) zero turn below = refl
turn_at_set (t ∷ ts) (suc n) turn below = turn_at_set ts n turn (omega arith)

pub turn_at_other : (turns : List Turn) (n m : ℕ) (turn : Turn) → m ≢ n → turn_at (set turns n turn) m ≡ turn_at turns m
turn_at_other [] n m turn other = refl
turn_at_other (t ∷ ts) zero zero turn other = absurd (other refl)
turn_at_other (t ∷ ts) zero (suc m) turn other = refl
turn_at_other (t ∷ ts) (suc n) zero turn other = refl
turn_at_other (t ∷ ts) (suc n) (suc m) turn other = turn_at_other ts n m turn (λ e. other (ap suc e))

pub turn_at_push : (turns : List Turn) (n : ℕ) → turn_at (turns ++ Waiting ∷ []) n ≡ turn_at turns n
turn_at_push [] zero = refl
turn_at_push [] (suc n) = refl
turn_at_push (t ∷ ts) zero = refl
turn_at_push (t ∷ ts) (suc n) = turn_at_push ts n

pub turn_past : (turns : List Turn) (n : ℕ) → length turns ≤ n → turn_at turns n ≡ Waiting
turn_past [] n past = refl
turn_past (t ∷ ts) zero past = absurd (omega arith)
turn_past (t ∷ ts) (suc n) past = turn_past ts n (omega arith)

-- what is still to come, after one turn has changed
pub left_set : (turns : List Turn) (n : ℕ) (turn : Turn) → n < length turns → sum_by entries_left (set turns n turn) + entries_left (turn_at turns n) ≡ sum_by entries_left turns + entries_left turn
left_set [] n turn below = absurd (omega arith)
left_set (t ∷ ts) zero turn below = swapped (sum_by entries_left (turn ∷ ts)) (entries_left turn) (sum_by entries_left ts) (entries_left t) (sum_by entries_left (t ∷ ts)) (sum_by-cons entries_left turn ts) (sum_by-cons entries_left t ts)
  where
    swapped : (u a b c v : ℕ) → u ≡ a + b → v ≡ c + b → u + c ≡ v + a
    swapped u a b c v first last = omega arith
left_set (t ∷ ts) (suc n) turn below = with_first (sum_by entries_left (t ∷ set ts n turn)) (entries_left t) (sum_by entries_left (set ts n turn)) (entries_left (turn_at ts n)) (sum_by entries_left ts) (entries_left turn) (sum_by entries_left (t ∷ ts)) (sum_by-cons entries_left t (set ts n turn)) (sum_by-cons entries_left t ts) (left_set ts n turn (omega arith))
  where
    with_first : (u a b c d e v : ℕ) → u ≡ a + b → v ≡ a + d → b + c ≡ d + e → u + c ≡ v + e
    with_first u a b c d e v first last same = omega arith

-- the asks of a caller
pub by_asked : (caller : ℕ) (history : List DeskEntry) (ask : Ask) → ask.caller ≡ caller → asks_by caller (history ++ Asked ask ∷ []) ≡ asks_by caller history ++ ask ∷ []
by_asked caller history ask same =
    let hit : eqb ask.caller caller ≡ true = grind (arith, nat_tests) in
    ap (filter (λ (a : Ask). eqb a.caller caller)) (asks_asked history ask)
    ∙ filter-append (λ (a : Ask). eqb a.caller caller) (asks_of history) (ask ∷ []) ∙ ap (λ b. asks_by caller history ++ cond b (ask ∷ []) []) hit

pub by_other : (caller : ℕ) (history : List DeskEntry) (ask : Ask) → ask.caller ≢ caller → asks_by caller (history ++ Asked ask ∷ []) ≡ asks_by caller history
by_other caller history ask other =
    let miss : eqb ask.caller caller ≡ false = grind (arith, nat_tests) in
    ap (filter (λ (a : Ask). eqb a.caller caller)) (asks_asked history ask)
    ∙ filter-append (λ (a : Ask). eqb a.caller caller) (asks_of history) (ask ∷ []) ∙ ap (λ b. asks_by caller history ++ cond b (ask ∷ []) []) miss ∙ append-nil (asks_by caller history)
