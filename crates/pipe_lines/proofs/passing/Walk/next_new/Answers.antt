use Rattle.std.proofs.Common.{◌-◌, sym, ◌∙◌, arith}
use Rattle.pipe_lines.specs.PassOrder.{is_free, looked_at}
use Rattle.pipe_lines.specs.inside.Waiting.{rows_of, tokens_of}
use Rattle.pipe_lines.proofs.FindLemmas.{find_is, find_none}
use Rattle.pipe_lines.proofs.passing.Walk.next_new.Goals as goal

pub returns-then-is_free : goal.returns-then-is_free
returns-then-is_free c =
    sym (find_is (is_free (rows_of c.args.waits.now) c.args.self.now.passed) (looked_at c.args.self.now.passed) (tokens_of c.args.waits.now - looked_at c.args.self.now.passed) c.loop-token.token (record {
      from = omega (arith, c.requires.walk.looked, c.loop-token.auto.token);
      below = omega (arith, c.requires.walk.looked, c.loop-token.auto.token, c.loop-token-test.true, c.tokens-token-end.ensures);
      passes = sym c.is_free.ensures ∙ c.if-is_free.true;
      least = λ k from below. c.loop-token.invariant k (omega (arith, c.requires.walk.looked, from)) below;
    }))

pub returns : goal.returns
returns c =
    sym (find_none (is_free (rows_of c.args.waits.now) c.args.self.now.passed) (looked_at c.args.self.now.passed) (tokens_of c.args.waits.now - looked_at c.args.self.now.passed) (λ k from below.
    c.loop-token.invariant k (omega (arith, c.requires.walk.looked, from)) (omega (arith, below, from, c.requires.walk.looked, c.requires.walk.within, c.loop-token-test.false, c.tokens-token-end.ensures))))
