-- The tree stays sound and stamped; what is new is that of the tree.
use Rattle.std.proofs.Common.{◌≡◌, subst}
use Rattle.export_fs.specs.View.{View}
use Rattle.export_fs.specs.Risen.{TakesNew}
use Rattle.export_fs.proofs.export.Export.execute_partial.Goals as goal

pub invariant_of-self : goal.invariant_of-self
invariant_of-self c = (c.execute_partial.ensures.sound c.self.invariant.0, c.execute_partial.ensures.stamped c.self.invariant.1)

pub returns-clause-fresh : goal.returns-clause-fresh
returns-clause-fresh c = subst (λ (v : View). TakesNew v c.execute_partial.new.self) c.self.view_is c.execute_partial.ensures.fresh
