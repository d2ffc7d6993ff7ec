use Rattle.std.proofs.Common.{◌≡◌, ◌≤◌, length}
use Rattle.disk_tree.proofs.opened.read_full.Given as goal

abbrev pub invariant-loop : goal.invariant-loop
invariant-loop g l = record { within : l.done ≤ length l.buf; len : length l.buf ≡ length l.fn.buf }
