use Rattle.core_answers.proofs.answers.CutRows.{truncates-ok}
use Rattle.core_answers.proofs.truncates_go_well.Goals as goal

pub returns : goal.returns
returns c = truncates-ok
