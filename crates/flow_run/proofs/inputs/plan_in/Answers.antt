use Rattle.flow_run.proofs.Preparing.{refused_bytes}
use Rattle.flow_run.proofs.inputs.plan_in.Goals as goal

pub returns-in-Err-clause-stops : goal.returns-in-Err-clause-stops
returns-in-Err-clause-stops c = refused_bytes c.args.bytes.now c.in-Err.error c.graph_refusal.result c.graph_refusal.ensures.memory c.graph_refusal.ensures.refused c.in-Err.ensures.refusal
