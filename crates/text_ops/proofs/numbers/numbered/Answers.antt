use Rattle.std.proofs.Common.{◌≡◌, ◌++◌, ◌∷◌, ℕ, List, [], decimal, ap, subst, ◌∙◌, arith}
use Rattle.std.specs.List.{between}
use Rattle.std.proofs.lemmas.Fmt.{length-decimal-le}
use Rattle.std.proofs.lemmas.Slice.{between_to_end}
use Rattle.text_ops.specs.Lines.{lines_of}
use Rattle.text_ops.specs.MatchKeys.{space}
use Rattle.text_ops.specs.TextMeaning.{numbered_meaning}
use Rattle.text_ops.specs.Values.{Makes}
use Rattle.text_ops.proofs.NumberLemmas.{all_numbered}
use Rattle.text_ops.proofs.numbers.numbered.Goals as goal

pub write_digits-start-requires : goal.write_digits-start-requires
write_digits-start-requires c = (length-decimal-le 20 c.args.number (omega arith) (omega arith) (omega (arith, c.ranges.number.fits)), omega arith)

pub returns : goal.returns
returns c =
    let number = c.args.number in
    let buffer : List ℕ = c.write_digits-start.new.buf in
    let start = c.write_digits-start.result in
    let front : between start 21 buffer ≡ decimal number ++ space ∷ [] = between_to_end buffer start 21 (omega arith) ∙ c.write_digits-start.ensures.written in
    let text = c.as_slice.result.now in
    let same = all_numbered number (between start 21 buffer) (lines_of text) front ∙ ap (numbered_meaning number) c.as_slice.ensures.value in
    subst (λ value. Makes value c.each_behind.result) same c.each_behind.ensures
