use Rattle.core_session.proofs.drops.Shown.{slots-one-file}
use Rattle.core_session.proofs.slots_hold_one_file.Goals as goal

pub returns : goal.returns
returns c = slots-one-file
