use Rattle.std.proofs.Math.Nat.{zero-add}
use Rattle.journal_rules.specs.Counts.{first_tokens}
use Rattle.journal_rules.proofs.Tallying.{tells_same, tells_zeros}
use Rattle.journal_rules.proofs.releases.Releases.new.Goals as goal

pub returns : goal.returns
returns c =
    let net = c.args.net.now in
    let first = c.in_ok-new.ensures in
    record {
      given = tells_same _ _ _ _ first.given (λ e. zero-add (first_tokens net e));
      rounds = first.rounds;
      weak = tells_zeros _ net.edges _ (c.in_ok-vec.ensures.items_if_clones_equal (λ y same. same)) c.edges-edges.ensures.rows;
      used = tells_zeros _ net.tasks _ (c.in_ok-vec-2.ensures.items_if_clones_equal (λ y same. same)) c.tasks-tasks.ensures.rows;
      sources = tells_zeros _ net.tasks _ (c.in_ok-vec-3.ensures.items_if_clones_equal (λ y same. same)) c.tasks-tasks.ensures.rows;
    }
