use Rattle.std.proofs.Common.{refl, sym, ◌∙◌}
use Rattle.journal_text.proofs.WordLemmas.{too_large}
use Rattle.journal_text.proofs.words.digits_at.Goals as goal

pub returns-in_default : goal.returns-in_default
returns-in_default c =
    too_large c.args.bytes.now c.loop-i.i _ _ c.loop-i-test.true refl
    (sym c.is_ascii_digit.ensures.value ∙ c.if-not-is_ascii_digit.false) c.loop-i.invariant.1 c.in_default.ensures.none
