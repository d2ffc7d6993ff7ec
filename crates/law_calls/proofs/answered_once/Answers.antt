use Rattle.law_calls.proofs.CallsWait.{idle, again}
use Rattle.law_calls.proofs.answered_once.Goals as goal

pub returns-clause-again : goal.returns-clause-again
returns-clause-again c = again

pub returns-clause-idle : goal.returns-clause-idle
returns-clause-idle c = idle
