use Rattle.std.proofs.Common.{◌++◌, ◌∷◌, [], None, sym, subst, take, get_or}
use Rattle.std.proofs.lemmas.List.{take_all, take_more}
use Rattle.desk_book.specs.inside.Looks.{IsLeast}
use Rattle.desk_book.proofs.Looking.{least_push}
use Rattle.desk_book.proofs.looks.least.Goals as goal

pub loop-number-preserved : goal.loop-number-preserved
loop-number-preserved c =
    let xs = c.args.numbers.now in
    let i = c.loop-number.number-index in
    subst (λ ns. IsLeast ns c.lesser-least.result) (sym (take_more xs i None c.loop-number-test.true))
    (subst (IsLeast (take i xs ++ get_or xs i None ∷ [])) (sym c.lesser-least.ensures) (least_push (take i xs) c.loop-number.least (get_or xs i None) c.loop-number.invariant))

pub returns : goal.returns
returns c = subst (λ ns. IsLeast ns c.loop-number.least) (take_all c.loop-number.number-index c.args.numbers.now c.loop-number-test.false) c.loop-number.invariant
