use Rattle.step_saves.proofs.Staying.{later-on, others-on}
use Rattle.step_saves.proofs.later_bytes_keep_a_save.Goals as goal

pub returns-clause-later : goal.returns-clause-later
returns-clause-later c = later-on

pub returns-clause-others : goal.returns-clause-others
returns-clause-others c = others-on
