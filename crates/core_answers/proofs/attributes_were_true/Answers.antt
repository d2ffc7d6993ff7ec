use Rattle.core_answers.proofs.bonds.Executions.{attrs-true}
use Rattle.core_answers.proofs.attributes_were_true.Goals as goal

pub returns : goal.returns
returns c = attrs-true
