use Rattle.std.proofs.Common.{refl}
use Rattle.std.proofs.lemmas.Bool.{false≢true}
use Rattle.report_laws.proofs.examples.circle_reports.Goals as goal

pub returns-clause-report : goal.returns-clause-report
returns-clause-report c = refl

pub returns-clause-enough : goal.returns-clause-enough
returns-clause-enough c = refl

pub returns-clause-too_few : goal.returns-clause-too_few
returns-clause-too_few c = λ well. false≢true well
