use Rattle.std.proofs.Common.{subst}
use Rattle.export_fs.specs.Sound.{Sound}
use Rattle.export_fs.specs.Stamped.{Stamped}
use Rattle.export_fs.proofs.export.Export.is_kept.Goals as goal

pub returns-clause-sound : goal.returns-clause-sound
returns-clause-sound c = subst Sound c.self.view_is c.self.invariant.0

pub returns-clause-stamped : goal.returns-clause-stamped
returns-clause-stamped c = subst Stamped c.self.view_is c.self.invariant.1
