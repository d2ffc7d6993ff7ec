use Rattle.model_walks.proofs.AnswersTrue.{listings_true}
use Rattle.model_walks.proofs.listings_are_whole.Goals as goal

pub returns : goal.returns
returns c = λ m origin t lawful fresh rising client reached. listings_true m origin t lawful fresh rising client reached
