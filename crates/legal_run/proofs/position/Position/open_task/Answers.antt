use Rattle.journal_rules.proofs.CountLaws.{open_task_is, open_is}
use Rattle.legal_run.proofs.position.Position.open_task.Goals as goal

pub returns : goal.returns
returns c =
    let at = c.self.invariant in
    let opened = open_is _ _ c.args.start at.counted.opened (c.is_open.ensures.0 c.if-not-is_open.false) in
    rw (← c.self.view_is) (open_task_is _ _ _ c.args.start c.start_at.result at.reached opened c.start_at.ensures)
