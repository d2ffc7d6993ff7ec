use Rattle.std.proofs.Common.{sym}
use Rattle.script_text.proofs.Named.{is_taken}
use Rattle.script_text.proofs.paths.path_name.Goals as goal

pub returns : goal.returns
returns c =
    is_taken _ _ c.make.ensures
    (sym (rw c.as_slice.ensures at c.if-eq.ensures))
    (sym (rw c.as_slice-else-eq.ensures at c.if-eq-2.ensures))
