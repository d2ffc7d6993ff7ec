use Rattle.model_walks.proofs.AnswersTrue.{attrs_true}
use Rattle.model_walks.proofs.attributes_are_recent.Goals as goal

pub returns : goal.returns
returns c = λ m origin t lawful fresh client reached. attrs_true m origin t lawful fresh client reached
