use Rattle.core_answers.proofs.answers.PutRows.{put-kinds-shown}
use Rattle.core_answers.proofs.put_kinds_are_shown.Goals as goal

pub returns : goal.returns
returns c = put-kinds-shown
