-- The tree stays sound and stamped; what is new is that of the tree.
use Rattle.std.proofs.Common.{◌≡◌, subst}
use Rattle.export_fs.specs.View.{View}
use Rattle.export_fs.specs.Risen.{TakesNew}
use Rattle.export_fs.proofs.export.Export.reboot.Goals as goal

pub invariant_of-self : goal.invariant_of-self
invariant_of-self c = (c.reboot.ensures.sound c.self.invariant.0, c.reboot.ensures.stamped c.self.invariant.1)

pub returns-clause-fresh : goal.returns-clause-fresh
returns-clause-fresh c = subst (λ (v : View). TakesNew v c.reboot.new.self) c.self.view_is c.reboot.ensures.fresh
