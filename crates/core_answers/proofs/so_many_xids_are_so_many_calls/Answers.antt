use Rattle.core_answers.proofs.limits.CountOf.{calls-are-all}
use Rattle.core_answers.proofs.so_many_xids_are_so_many_calls.Goals as goal

pub returns : goal.returns
returns c = calls-are-all
