use Rattle.std.proofs.Common.{◌++◌, ap, ◌∙◌, arith}
use Rattle.std.specs.Prelude.{filter}
use Rattle.pipe_lines.specs.inside.Waiting.{rows_of, tokens_of}
use Rattle.pipe_lines.specs.inside.Walks.{is_waiting}
use Rattle.pipe_lines.proofs.WalkLemmas.{IsBehind, looked_behind, marks_behind, walk_behind, walk_next}
use Rattle.pipe_lines.proofs.passing.Walk.pass.Goals as goal

pub note-requires-clause-token : goal.note-requires-clause-token
note-requires-clause-token c = omega (arith, (walk_next c.args.waits.now c.args.self.now c.args.token c.requires.walk c.requires.next).below, c.requires.walk.marks.size)

pub note-requires-clause-few : goal.note-requires-clause-few
note-requires-clause-few c = omega (arith, (walk_next c.args.waits.now c.args.self.now c.args.token c.requires.walk c.requires.next).below, c.requires.tokens)

pub waiters-requires-clause-token : goal.waiters-requires-clause-token
waiters-requires-clause-token c = (walk_next c.args.waits.now c.args.self.now c.args.token c.requires.walk c.requires.next).below

pub newly_freed-requires-clause-marks : goal.newly_freed-requires-clause-marks
newly_freed-requires-clause-marks c =
    marks_behind c.args.waits.now c.args.self.now c.args.token c.requires.walk c.requires.next c.note.new.self.passed c.note.new.self.marks.items c.in_ok-note.ensures.passed c.in_ok-note.ensures.marks

pub newly_freed-requires-clause-looked : goal.newly_freed-requires-clause-looked
newly_freed-requires-clause-looked c = looked_behind c.args.waits.now c.args.self.now c.args.token c.requires.walk c.requires.next c.note.new.self.looked c.in_ok-note.ensures.looked

pub returns-clause-walk : goal.returns-clause-walk
returns-clause-walk c = record {
  marks = marks_behind c.args.waits.now c.args.self.now c.args.token c.requires.walk c.requires.next c.note.new.self.passed c.note.new.self.marks.items c.in_ok-note.ensures.passed c.in_ok-note.ensures.marks;
  looked = rest.looked_is;
  within = rest.within;
  few = rest.few;
  queue = rest.queue;
}
  where
    rest : IsBehind (tokens_of c.args.waits.now) (rows_of c.args.waits.now) c.note.new.self.passed c.add_all.new.self c.note.new.self.looked c.note.new.self.resumed
    rest =
        walk_behind c.args.waits.now c.args.self.now c.args.token c.requires.walk c.requires.next c.note.new.self.passed c.add_all.new.self c.note.new.self.looked c.note.new.self.resumed
        c.in_ok-note.ensures.passed c.in_ok-note.ensures.looked c.in_ok-note.ensures.resumed
        (c.in_ok-add_all.ensures.ok
        ∙ ap (λ ks. ks ++ c.as_slice.result.now) c.in_ok-note.ensures.freed
        ∙ ap (λ ks. c.args.self.now.freed ++ ks) (c.as_slice.ensures ∙ c.in_ok-freed.ensures
        ∙ ap (filter (is_waiting (rows_of c.args.waits.now) c.note.new.self.passed c.note.new.self.looked)) c.waiters.ensures))
