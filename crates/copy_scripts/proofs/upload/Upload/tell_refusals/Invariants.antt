use Rattle.std.proofs.Common.{◌≡◌}
use Rattle.copy_scripts.proofs.upload.Upload.tell_refusals.Given as goal

abbrev pub invariant-loop : goal.invariant-loop
invariant-loop g l = l.self ≡ l.fn.self
