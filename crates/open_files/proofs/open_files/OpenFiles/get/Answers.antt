use Rattle.std.proofs.Common.{sym}
use Rattle.open_files.proofs.Kept.{none_at, found_there}
use Rattle.open_files.proofs.open_files.OpenFiles.get.Goals as goal

pub returns-in_err-key : goal.returns-in_err-key
returns-in_err-key c = rw (c.from_residual.ensures, ← c.self.view_is) (sym (none_at c.self.inside.opens _ c.in_err-key.ensures))

pub returns : goal.returns
returns c = rw (← c.self.view_is) (sym (found_there c.self.inside.opens c.self.invariant _ _ _ c.in_ok-key.ensures c.index.ensures))
