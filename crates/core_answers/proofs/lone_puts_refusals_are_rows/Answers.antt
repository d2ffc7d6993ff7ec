use Rattle.core_answers.proofs.answers.LonePuts.{lone-refusals}
use Rattle.core_answers.proofs.lone_puts_refusals_are_rows.Goals as goal

pub returns : goal.returns
returns c = lone-refusals
