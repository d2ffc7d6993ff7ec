use Rattle.std.proofs.Common.{rules}
use Rattle.export_fs.proofs.FreshCalls.{stamped_first}
use Rattle.export_fs.proofs.ExportContract.{sound_new}
use Rattle.export_fs.proofs.tree.Tree.new.Goals as goal

pub returns-clause-empty : goal.returns-clause-empty
returns-clause-empty c = search rules

pub returns-clause-sound : goal.returns-clause-sound
returns-clause-sound c = sound_new _ (returns-clause-empty c)

pub returns-clause-stamped : goal.returns-clause-stamped
returns-clause-stamped c = stamped_first _ (returns-clause-empty c)
