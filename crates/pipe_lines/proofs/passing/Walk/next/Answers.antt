use Rattle.std.proofs.Common.{rules, ◌∙◌}
use Rattle.pipe_lines.specs.inside.Waiting.{rows_of, tokens_of}
use Rattle.pipe_lines.proofs.WalkLemmas.{next_queued, next_unqueued}
use Rattle.pipe_lines.proofs.passing.Walk.next.Goals as goal

pub returns-in-Some : goal.returns-in-Some
returns-in-Some c = next_queued (tokens_of c.args.waits.now) (rows_of c.args.waits.now) c.args.self.now.passed c.args.self.now.freed c.args.self.now.resumed c.in-Some.token.now c.requires.walk.queue (search rules)

pub returns-in-None : goal.returns-in-None
returns-in-None c = c.next_new.ensures ∙ next_unqueued (tokens_of c.args.waits.now) (rows_of c.args.waits.now) c.args.self.now.passed c.args.self.now.freed c.args.self.now.resumed c.requires.walk.queue (search rules)
