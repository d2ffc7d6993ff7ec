-- None of the objects so far is under the handle.
use Rattle.std.proofs.Common.{◌≡◌, drop}
use Rattle.trace_data.specs.Histories.{named}
use Rattle.trace_data.proofs.objects.named.Given as goal

abbrev pub invariant-loop-updated : goal.invariant-loop-updated
invariant-loop-updated l = named l.objects l.handle ≡ named (drop l.updated-index l.objects) l.handle
