-- What operations make of one text after another.
use Rattle.std.proofs.Common.{◌≡◌, ℕ, zero, suc, ◌+◌, ◌-◌, List, [], ◌∷◌, ◌++◌, length, take, drop, refl, sym, ap, subst, ◌∙◌, arith, append_assoc, length-append}
use Rattle.std.proofs.lemmas.List.Concat.{flat_map-append}
use Rattle.join_words.specs.declared.ins.Ins.{Ins}
use Rattle.graph_plans.specs.declared.ops.TextOp.{TextOp}
use Rattle.graph_plans.specs.declared.ops.TextOp.TheVariants.{Pass, Keep, Without, Head, Tail, Skip, Sort, Uniq, Count, Tally}
use Rattle.text_ops.specs.declared.joined.Joined.{Joined}
use Rattle.text_ops.specs.Joining.{IsJoined}
use Rattle.text_ops.specs.Lines.{lines_of, ended, text_of, IsNormal}
use Rattle.text_ops.specs.TextMeaning.{head_meaning, skip_meaning}
use Rattle.text_ops.proofs.LineLemmas.{lines_of-append}
use Rattle.text_ops.proofs.KeepLemmas.{keep_meaning-append, without_meaning-append}
use Rattle.text_tasks.specs.declared.item.Item.{Item}
use Rattle.text_tasks.specs.OpMeaning.{text_op_value}
use Rattle.text_tasks.specs.inside.Finding.{text_of_edge, text_from}
use Rattle.text_tasks.specs.inside.OneByOne.{GoesByLines, JoinedSoFar}
use Rattle.text_tasks.proofs.FoundLemmas.{text_from_next}

take_nil : {A : Type 0} (n : ℕ) → take {A = A} n [] ≡ []
take_nil zero = refl
take_nil (suc n) = refl

drop_nil : {A : Type 0} (n : ℕ) → drop {A = A} n [] ≡ []
drop_nil zero = refl
drop_nil (suc n) = refl

take_of_both : {A : Type 0} (n : ℕ) (xs ys : List A) → take n (xs ++ ys) ≡ take n xs ++ take (n - length xs) ys
take_of_both n [] ys = let all : n - 0 ≡ n = omega arith in rw all (ap (λ l. l ++ take n ys) (sym (take_nil n)))
take_of_both zero (x ∷ xs) ys = let none : 0 - suc (length xs) ≡ 0 = omega arith in rw none refl
take_of_both (suc n) (x ∷ xs) ys = let fewer : suc n - suc (length xs) ≡ n - length xs = omega arith in rw fewer (ap (λ l. x ∷ l) (take_of_both n xs ys))

drop_of_both : {A : Type 0} (n : ℕ) (xs ys : List A) → drop n (xs ++ ys) ≡ drop n xs ++ drop (n - length xs) ys
drop_of_both n [] ys = let all : n - 0 ≡ n = omega arith in rw all (ap (λ l. l ++ drop n ys) (sym (drop_nil n)))
drop_of_both zero (x ∷ xs) ys = let none : 0 - suc (length xs) ≡ 0 = omega arith in rw none refl
drop_of_both (suc n) (x ∷ xs) ys = let fewer : suc n - suc (length xs) ≡ n - length xs = omega arith in rw fewer (drop_of_both n xs ys)

head_of_both : (n : ℕ) (a b : List ℕ) → IsNormal a → head_meaning n (a ++ b) ≡ head_meaning n a ++ head_meaning (n - length (lines_of a)) b
head_of_both n a b is =
    ap (λ lines. text_of (take n lines)) (lines_of-append a b is)
    ∙ ap text_of (take_of_both n (lines_of a) (lines_of b))
    ∙ flat_map-append ended (take n (lines_of a)) (take (n - length (lines_of a)) (lines_of b))

skip_of_both : (n : ℕ) (a b : List ℕ) → IsNormal a → skip_meaning n (a ++ b) ≡ skip_meaning n a ++ skip_meaning (n - length (lines_of a)) b
skip_of_both n a b is =
    ap (λ lines. text_of (drop n lines)) (lines_of-append a b is)
    ∙ ap text_of (drop_of_both n (lines_of a) (lines_of b))
    ∙ flat_map-append ended (drop n (lines_of a)) (drop (n - length (lines_of a)) (lines_of b))

op_of_both : (op : TextOp) → GoesByLines op → (a b : List ℕ) → IsNormal a → text_op_value op (a ++ b) ≡ text_op_value op a ++ text_op_value op b
op_of_both Pass goes a b is = absurd goes
op_of_both (Keep word) goes a b is = keep_meaning-append word a b is
op_of_both (Without word) goes a b is = without_meaning-append word a b is
op_of_both (Head n) goes a b is = absurd goes
op_of_both (Tail n) goes a b is = absurd goes
op_of_both (Skip n) goes a b is = absurd goes
op_of_both Sort goes a b is = absurd goes
op_of_both Uniq goes a b is = absurd goes
op_of_both Count goes a b is = absurd goes
op_of_both Tally goes a b is = absurd goes

-- with the text at one more edge
module _ (ins : Ins Item) (place : ℕ) (is : IsNormal (text_of_edge ins place)) where
  pub op_next : (op : TextOp) → GoesByLines op → text_op_value op (text_from ins place) ≡ text_op_value op (text_of_edge ins place) ++ text_op_value op (text_from ins (place + 1))
  op_next op goes = ap (text_op_value op) (text_from_next ins place) ∙ op_of_both op goes (text_of_edge ins place) (text_from ins (place + 1)) is

  pub head_next : (n : ℕ) → head_meaning n (text_from ins place) ≡ head_meaning n (text_of_edge ins place) ++ head_meaning (n - length (lines_of (text_of_edge ins place))) (text_from ins (place + 1))
  head_next n = ap (head_meaning n) (text_from_next ins place) ∙ head_of_both n (text_of_edge ins place) (text_from ins (place + 1)) is

  pub skip_next : (n : ℕ) → skip_meaning n (text_from ins place) ≡ skip_meaning n (text_of_edge ins place) ++ skip_meaning (n - length (lines_of (text_of_edge ins place))) (text_from ins (place + 1))
  skip_next n = ap (skip_meaning n) (text_from_next ins place) ∙ skip_of_both n (text_of_edge ins place) (text_from ins (place + 1)) is

  pub lines_next : length (lines_of (text_from ins place)) ≡ length (lines_of (text_of_edge ins place)) + length (lines_of (text_from ins (place + 1)))
  lines_next =
      ap (λ text. length (lines_of text)) (text_from_next ins place)
      ∙ ap length (lines_of-append (text_of_edge ins place) (text_from ins (place + 1)) is)
      ∙ length-append (lines_of (text_of_edge ins place)) (lines_of (text_from ins (place + 1)))

-- an edge without a text
pub nothing_next : (ins : Ins Item) (place : ℕ) → text_of_edge ins place ≡ [] → text_from ins place ≡ text_from ins (place + 1)
nothing_next ins place none = text_from_next ins place ∙ ap (λ front. front ++ text_from ins (place + 1)) none

-- nothing is put behind it
pub JoinedSoFar-same : (rest value later : List ℕ) (made : Joined) → JoinedSoFar rest value made → rest ≡ later → JoinedSoFar later value made
JoinedSoFar-same rest value later made so_far is = subst (λ l. JoinedSoFar l value made) is so_far

-- a part of the rest is put behind what is there
pub JoinedSoFar-step : (rest value part later : List ℕ) (made next : Joined) (so_far : JoinedSoFar rest value made) → rest ≡ part ++ later → IsJoined (so_far.all ++ part) next → JoinedSoFar later value next
JoinedSoFar-step rest value part later made next so_far is joined =
    record {
      all = so_far.all ++ part;
      joined = joined;
      same = append_assoc so_far.all part later ∙ ap (λ l. so_far.all ++ l) (sym is) ∙ so_far.same;
    }
