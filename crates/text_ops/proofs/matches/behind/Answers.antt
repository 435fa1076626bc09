use Rattle.std.proofs.Common.{◌≡◌, ◌+◌, ◌==◌, ℕ, not, ◌∙◌, min, length, ap, arith, drop}
use Rattle.std.specs.List.{take_while}
use Rattle.std.proofs.lemmas.List.{drop_min}
use Rattle.text_ops.specs.Lines.{line_end}
use Rattle.text_ops.proofs.MatchLemmas.{found_end, found_no_end}
use Rattle.text_ops.proofs.matches.behind.Goals as goal

pub returns-in-Some : goal.returns-in-Some
returns-in-Some g c =
    let text = c.args.text.now in
    let place = c.args.sort_key.now.start + c.args.sort_key.now.len in
    let start : c.min-start.result ≡ min place (length text) = omega (arith, c.min-start.ensures, c.saturating_add.ensures, c.start.ensures, c.len.ensures) in
    found_end text c.min-start.result c.in-Some.end (omega arith) c.in-Some.ensures
    ∙ ap (take_while (λ (byte : ℕ). not (byte == line_end))) (ap (λ n. drop n text) start ∙ drop_min place text)

pub returns-in-None : goal.returns-in-None
returns-in-None g c =
    let text = c.args.text.now in
    let place = c.args.sort_key.now.start + c.args.sort_key.now.len in
    let start : c.min-start.result ≡ min place (length text) = omega (arith, c.min-start.ensures, c.saturating_add.ensures, c.start.ensures, c.len.ensures) in
    found_no_end text c.min-start.result (omega arith) c.in-None.ensures
    ∙ ap (take_while (λ (byte : ℕ). not (byte == line_end))) (ap (λ n. drop n text) start ∙ drop_min place text)
