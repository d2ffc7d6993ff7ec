-- No object so far names it.
use Rattle.std.proofs.Common.{◌≡◌, drop}
use Rattle.trace_steps.specs.MoveTests.{names_among}
use Rattle.trace_steps.proofs.removal.names_among.Given as goal

abbrev pub invariant-loop-updated : goal.invariant-loop-updated
invariant-loop-updated l = names_among l.trace l.entry l.handle l.objects ≡ names_among l.trace l.entry l.handle (drop l.updated-index l.objects)
