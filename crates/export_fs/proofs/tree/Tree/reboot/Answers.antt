-- What a restart makes of the export is what the clause `after` says.
use Rattle.std.proofs.Common.{rules, sym}
use Rattle.export_fs.proofs.FreshCalls.{stamped_reboot, fresh_reboot}
use Rattle.export_fs.proofs.ExportContract.{sound_restart, restarts_later}
use Rattle.export_fs.proofs.tree.Tree.reboot.Goals as goal

pub returns-clause-done : goal.returns-clause-done
returns-clause-done c = search rules

pub returns-clause-after : goal.returns-clause-after
returns-clause-after c = search rules

pub returns-clause-sound : goal.returns-clause-sound
returns-clause-sound c = sound_restart c.args.self.now _ (returns-clause-after c)

pub returns-clause-restarts : goal.returns-clause-restarts
returns-clause-restarts c = λ e. restarts_later c.args.self.now _ (returns-clause-after c) (sym (returns-clause-done c))

pub returns-clause-stamped : goal.returns-clause-stamped
returns-clause-stamped c = stamped_reboot c.args.self.now _ (returns-clause-after c)

pub returns-clause-fresh : goal.returns-clause-fresh
returns-clause-fresh c = fresh_reboot c.args.self.now _ (returns-clause-after c)
