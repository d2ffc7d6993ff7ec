use Rattle.core_answers.proofs.rows.WholeRows.{slot-rows}
use Rattle.core_answers.proofs.slot_rows_are_shown.Goals as goal

pub returns : goal.returns
returns c = slot-rows
