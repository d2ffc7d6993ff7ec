use Rattle.core_answers.proofs.limits.AllSent.{sent-by-then}
use Rattle.core_answers.proofs.a_lone_spent_answer_comes_after_all_calls.Goals as goal

pub returns : goal.returns
returns c = sent-by-then
