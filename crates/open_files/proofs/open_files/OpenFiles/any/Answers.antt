use Rattle.std.proofs.Common.{sym, ap, ◌∙◌, not}
use Rattle.open_files.proofs.Kept.{any-open}
use Rattle.open_files.proofs.open_files.OpenFiles.any.Goals as goal

pub returns : goal.returns
returns c = rw (← c.self.view_is) (any-open c.self.inside.opens _ (ap not c.is_empty.ensures) c.self.invariant)
