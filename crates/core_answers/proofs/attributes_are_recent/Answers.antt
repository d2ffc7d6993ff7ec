use Rattle.core_answers.proofs.bonds.Aged.{attrs-aged}
use Rattle.core_answers.proofs.attributes_are_recent.Goals as goal

pub returns : goal.returns
returns c = attrs-aged
