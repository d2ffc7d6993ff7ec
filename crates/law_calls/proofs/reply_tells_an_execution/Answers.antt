use Rattle.law_calls.proofs.RepliesTell.{told}
use Rattle.law_calls.proofs.reply_tells_an_execution.Goals as goal

pub returns : goal.returns
returns c = told
