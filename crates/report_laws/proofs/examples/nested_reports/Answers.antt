use Rattle.std.proofs.Common.{refl}
use Rattle.std.specs.Fmt.{digits}
use Rattle.std.proofs.lemmas.Bool.{false≢true}
use Rattle.report_laws.proofs.examples.nested_reports.Goals as goal

pub returns-clause-modules : goal.returns-clause-modules
returns-clause-modules c = refl

pub returns-clause-enough : goal.returns-clause-enough
returns-clause-enough c = refl

pub returns-clause-too_few : goal.returns-clause-too_few
returns-clause-too_few c = λ well. false≢true well

pub returns-clause-too_few_inside : goal.returns-clause-too_few_inside
returns-clause-too_few_inside c = λ well. false≢true well

pub returns-clause-parts : goal.returns-clause-parts
returns-clause-parts c = refl

pub returns-clause-pipe : goal.returns-clause-pipe
unfolding digits
returns-clause-pipe c = refl

pub returns-clause-waits : goal.returns-clause-waits
unfolding digits
returns-clause-waits c = refl

pub returns-clause-unmet : goal.returns-clause-unmet
returns-clause-unmet c = λ well. false≢true well
