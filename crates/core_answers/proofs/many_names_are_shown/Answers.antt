use Rattle.core_answers.proofs.answers.ManyStory.{many-shown}
use Rattle.core_answers.proofs.many_names_are_shown.Goals as goal

pub returns : goal.returns
returns c = many-shown
