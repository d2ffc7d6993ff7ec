use Rattle.core_answers.proofs.bonds.AttrsShown.{attrs-shown}
use Rattle.core_answers.proofs.attributes_were_shown.Goals as goal

pub returns : goal.returns
returns c = attrs-shown
