use Rattle.core_answers.proofs.answers.PutRules.{put-rules-shown}
use Rattle.core_answers.proofs.put_rules_are_shown.Goals as goal

pub returns : goal.returns
returns c = put-rules-shown
