use Rattle.model_walks.proofs.AnswersTrue.{names_true}
use Rattle.model_walks.proofs.names_are_true.Goals as goal

pub returns : goal.returns
returns c = λ m origin t lawful fresh client reached. names_true m origin t lawful fresh client reached
