use Rattle.text_ops.proofs.KeepLemmas.{IsFirstKept-found, IsNowhere-not_found}
use Rattle.text_ops.proofs.found_line.first_kept.Goals as goal

pub returns-in_err-place-clause-none : goal.returns-in_err-place-clause-none
returns-in_err-place-clause-none c =
    rw c.from_residual.ensures (IsNowhere-not_found c.args.word.now c.args.text.now c.requires.normal c.in_err-place.ensures)

pub returns-clause-found : goal.returns-clause-found
returns-clause-found c =
    let found = c.in_ok-place.ensures in
    IsFirstKept-found c.args.word.now c.args.text.now _ _ _ c.requires.word.plain found.1 c.line_start.ensures c.line_end.ensures c.requires.word.long found.0.before
