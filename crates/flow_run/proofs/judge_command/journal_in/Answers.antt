use Rattle.flow_run.proofs.judge_command.journal_in.Goals as goal

pub returns-in-Err-clause-stops : goal.returns-in-Err-clause-stops
returns-in-Err-clause-stops c = c.journal_refusal.ensures c.args.bytes.now c.in-Err.ensures.refusal
