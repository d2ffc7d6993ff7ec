-- The tree stays sound and stamped.
use Rattle.export_fs.proofs.export.Export.place.Goals as goal

pub invariant_of-self : goal.invariant_of-self
invariant_of-self c = (c.place.ensures.sound c.self.invariant.0, c.place.ensures.stamped c.self.invariant.1)
