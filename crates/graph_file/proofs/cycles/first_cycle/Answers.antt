use Rattle.std.proofs.Common.{sym, subst}
use Rattle.pitfall_check.specs.Findings.{AreFindings}
use Rattle.graph_file.proofs.CycleLemmas.{cycle-found-at, no-cycle-found}
use Rattle.graph_file.proofs.cycles.first_cycle.Goals as goal

pub returns-in-StrongCycle : goal.returns-in-StrongCycle
returns-in-StrongCycle c =
    cycle-found-at c.args.net.now c.as_slice-listed.result.now c.loop-finding.finding-index c.in-StrongCycle.task _ (subst (AreFindings c.args.net.now) (sym c.as_slice-listed.ensures) c.in_ok-findings.ensures) c.loop-finding-test.true
    c.in-StrongCycle.is c.loop-finding.invariant

pub returns : goal.returns
returns c =
    no-cycle-found c.args.net.now c.as_slice-listed.result.now c.loop-finding.finding-index (subst (AreFindings c.args.net.now) (sym c.as_slice-listed.ensures) c.in_ok-findings.ensures) c.loop-finding-test.false c.loop-finding.invariant
