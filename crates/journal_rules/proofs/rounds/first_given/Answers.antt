use Rattle.std.proofs.Common.{◌≡◌, ◌∙◌, arith}
use Rattle.std.proofs.lemmas.List.{length_push}
use Rattle.journal_rules.specs.Counts.{first_tokens}
use Rattle.journal_rules.proofs.Tallying.{each_push, first_tokens_at}
use Rattle.journal_rules.proofs.rounds.first_given.Goals as goal

pub loop-row-preserved : goal.loop-row-preserved
loop-row-preserved c =
    let net = c.args.net.now in
    let start = c.from.ensures ∙ first_tokens_at net _ c.loop-row.row-index _ c.edges-row-items.ensures.rows c.loop-row-test.true in
    rw c.in_ok-push.ensures.items (
      length_push c.loop-row.given.items c.from.result ∙ omega (arith, c.loop-row.invariant.0),
      each_push (λ k n. n ≡ first_tokens net k) c.loop-row.given.items c.from.result c.loop-row.row-index c.loop-row.invariant.0 c.loop-row.invariant.1 start,
    )
